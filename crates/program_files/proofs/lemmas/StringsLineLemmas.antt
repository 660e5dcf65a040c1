-- One more line after others.
use Rattle.std.proofs.Common.{◌≡◌, ℕ, ◌+◌, List, [], ◌∷◌, ◌++◌, ◌∙◌, ap, append-nil, arith, length, sym}
use Rattle.std.proofs.lemmas.Grind.{flat_map-append}
use Rattle.std.proofs.lemmas.List.{length-append}
use Rattle.program_files.specs.StringsLines.{ends_from, ends_of, joined_lines}

pub joined-more : (lines : List (List ℕ)) (line : List ℕ) → joined_lines (lines ++ line ∷ []) ≡ joined_lines lines ++ line
joined-more lines line = flat_map-append (λ l. l) lines (line ∷ []) ∙ ap (λ l. joined_lines lines ++ l) (append-nil line)

ends-more : (at : ℕ) (lines : List (List ℕ)) (line : List ℕ)
    → ends_from at (lines ++ line ∷ []) ≡ ends_from at lines ++ (at + (length (joined_lines lines) + length line)) ∷ []
ends-more at [] line =
    let same : at + length line ≡ at + (0 + length line) = omega arith in
    ap (λ e. e ∷ []) same
ends-more at (first ∷ lines) line =
    let more = ends-more (at + length first) lines line in
    let long : length (joined_lines (first ∷ lines)) ≡ length first + length (joined_lines lines) = length-append first (joined_lines lines) in
    let end : (at + length first) + (length (joined_lines lines) + length line) ≡ at + (length (joined_lines (first ∷ lines)) + length line) =
    omega (arith, long) in
    ap (λ l. (at + length first) ∷ l) (more ∙ ap (λ e. ends_from (at + length first) lines ++ e ∷ []) end)

-- the bytes and the ends of the lines with one more
pub gathered-more : (lines : List (List ℕ)) (line bytes ends more : List ℕ) → bytes ≡ joined_lines lines → ends ≡ ends_of lines → more ≡ bytes ++ line
    → (more ≡ joined_lines (lines ++ line ∷ [])) × (ends ++ length more ∷ [] ≡ ends_of (lines ++ line ∷ []))
gathered-more lines line bytes ends more h g m =
    let same : more ≡ joined_lines (lines ++ line ∷ []) = m ∙ ap (λ b. b ++ line) h ∙ sym (joined-more lines line) in
    let long : length more ≡ length (joined_lines lines) + length line =
    ap length m ∙ length-append bytes line ∙ ap (λ b. length b + length line) h in
    let end : length more ≡ 0 + (length (joined_lines lines) + length line) = omega (arith, long) in
    (same, ap (λ e. e ++ length more ∷ []) g ∙ ap (λ n. ends_of lines ++ n ∷ []) end ∙ sym (ends-more 0 lines line))
