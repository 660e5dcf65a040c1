-- A number cut into k fields of w bits each, and what `&`, `+`, `-`, a masked shift and a count of ones do to
-- all fields at once.
use Rattle.std.proofs.Common.{List, [], ◌∷◌, All, Bool, cond, count_by, get_or, map, suc-le-suc, zero-lt-suc, add_comm, zero-add, not-suc-le-zero, le_of_suc-le-suc, ◌≡◌, ℕ, zero, suc, ◌+◌, ◌-◌, ◌*◌, ◌/◌, ◌%◌, ◌^◌, ◌<◌, ◌≤◌, bit_and, count_ones, refl, sym, ap, ap₂, add-zero, ◌∙◌, arith, zero-mul, suc-mul}
use Rattle.std.proofs.Math.Nat.{mul-add-div_right}
use Rattle.std.proofs.lemmas.List.Sums.{sum_by-cons}
use Rattle.std.proofs.lemmas.Nat.{and_block, pow_pos, mod_below, ones_cat, pow-add, shr_split, shr_below, mod-pow-add}
use Rattle.std.specs.Int.Bits.{and_zero_r}
use Rattle.std.specs.Int.Count.{ones, ones_in}
use Rattle.broadword.proofs.lemmas.ByteLemmas.{low_bytes-cat}
use Rattle.broadword.proofs.lemmas.LowBytes.{low_bytes}

-- the number whose field i is f at field i of x
unfoldable pub map_fields : ℕ → ℕ → (ℕ → ℕ) → ℕ → ℕ
map_fields w zero f x = 0
map_fields w (suc k) f x = map_fields w k f (x / 2 ^ w) * 2 ^ w + f (x % 2 ^ w)

-- f is below 2 ^ w at each field
pub record Stays (w : ℕ) (f : ℕ → ℕ) : Type 0 where
  pub below : (v : ℕ) → v < 2 ^ w → f v < 2 ^ w

field_below : (w x : ℕ) → x % 2 ^ w < 2 ^ w
field_below w x = mod_below x (2 ^ w) (pow_pos w)

-- two maps that agree at each field
pub map_fields-same : (w k : ℕ) (f g : ℕ → ℕ) (x : ℕ) → ((v : ℕ) → v < 2 ^ w → f v ≡ g v) → map_fields w k f x ≡ map_fields w k g x
unfolding map_fields
map_fields-same w zero f g x same = refl
map_fields-same w (suc k) f g x same =
    let rest = map_fields-same w k f g (x / 2 ^ w) same in
    let here = same (x % 2 ^ w) (field_below w x) in
    cc

pub map_fields-self : (w k x : ℕ) → x < 2 ^ (k * w) → map_fields w k (λ v. v) x ≡ x
unfolding map_fields
map_fields-self w zero x fits = let e = rw zero-mul at fits in omega arith
map_fields-self w (suc k) x fits =
    let e : x < 2 ^ (k * w + w) = rw (← suc-mul k w) fits in
    ap (λ y. y * 2 ^ w + x % 2 ^ w) (map_fields-self w k (x / 2 ^ w) (shr_below x (k * w) w e)) ∙ shr_split x w

pub map_fields-add : (w k : ℕ) (f g : ℕ → ℕ) (x : ℕ) → map_fields w k f x + map_fields w k g x ≡ map_fields w k (λ v. f v + g v) x
unfolding map_fields
map_fields-add w zero f g x = refl
map_fields-add w (suc k) f g x = omega (arith, ap (λ y. y * 2 ^ w) (map_fields-add w k f g (x / 2 ^ w)))

-- where no field borrows, the difference is that of each field
pub map_fields-sub : (w k : ℕ) (f g : ℕ → ℕ) (x : ℕ) → ((v : ℕ) → v < 2 ^ w → g v ≤ f v)
    → (map_fields w k g x ≤ map_fields w k f x) × (map_fields w k f x - map_fields w k g x ≡ map_fields w k (λ v. f v - g v) x)
map_fields-sub w k f g x less =
    let same = map_fields-same w k (λ v. g v + (f v - g v)) f x (λ v b. let le = less v b in omega arith) in
    let sum = map_fields-add w k g (λ v. f v - g v) x ∙ same in
    (omega arith, omega arith)

pub map_fields-and : (w k : ℕ) (f g : ℕ → ℕ) (x : ℕ) → Stays w f → Stays w g
    → bit_and (map_fields w k f x) (map_fields w k g x) ≡ map_fields w k (λ v. bit_and (f v) (g v)) x
unfolding map_fields
map_fields-and w zero f g x bf bg = refl
map_fields-and w (suc k) f g x bf bg =
    let rest = x / 2 ^ w in
    let low = x % 2 ^ w in
    let here = field_below w x in
    and_block w (map_fields w k f rest) (map_fields w k g rest) (f low) (g low) (bf.below _ here) (bg.below _ here)
    ∙ ap (λ y. y * 2 ^ w + bit_and (f low) (g low)) (map_fields-and w k f g rest bf bg)

-- ---- a shift down by s of fields of t + s bits, masked so that no bit of the next field stays

and_over_shifted : (y m s : ℕ) → bit_and y (m * 2 ^ s) ≡ bit_and (y / 2 ^ s) m * 2 ^ s
and_over_shifted y m s =
    let split = ap₂ bit_and (sym (shr_split y s)) (sym (add-zero (m * 2 ^ s))) in
    let block = and_block s (y / 2 ^ s) m (y % 2 ^ s) 0 (field_below s y) (pow_pos s) in
    let none = and_zero_r (y % 2 ^ s) in
    split ∙ block ∙ omega arith

shr_field : (t s y b : ℕ) → (y * 2 ^ (t + s) + b) / 2 ^ s ≡ y * 2 ^ t + b / 2 ^ s
shr_field t s y b =
    let e : y * 2 ^ (t + s) + b ≡ (y * 2 ^ t) * 2 ^ s + b = ap (λ p. y * p + b) (pow-add 2 t s) ∙ omega arith in
    ap (λ n. n / 2 ^ s) e ∙ mul-add-div_right (pow_pos s) (y * 2 ^ t) b

pub map_fields-shr-and : (t s k : ℕ) (f : ℕ → ℕ) (m x : ℕ) → Stays (t + s) f → m < 2 ^ t
    → bit_and (map_fields (t + s) k f x / 2 ^ s) (map_fields (t + s) k (λ v. m) x) ≡ map_fields (t + s) k (λ v. bit_and (f v / 2 ^ s) m) x
unfolding map_fields
map_fields-shr-and t s zero f m x bf bm = and_zero_r (0 / 2 ^ s)
map_fields-shr-and t s (suc k) f m x bf bm =
    let rest = x / 2 ^ (t + s) in
    let high = map_fields (t + s) k f rest in
    let mask = map_fields (t + s) k (λ v. m) rest in
    let low = f (x % 2 ^ (t + s)) in
    let masked = bit_and (low / 2 ^ s) m in
    let below : low / 2 ^ s < 2 ^ t = shr_below low t s (bf.below _ (field_below (t + s) x)) in
    let turned : mask * 2 ^ (t + s) + m ≡ (mask * 2 ^ s) * 2 ^ t + m = ap (λ p. mask * p + m) (pow-add 2 t s) ∙ omega arith in
    let cut = ap₂ bit_and (shr_field t s high low) turned in
    let block = and_block t high (mask * 2 ^ s) (low / 2 ^ s) m below bm in
    let shifted = and_over_shifted high mask s ∙ ap (λ y. y * 2 ^ s) (map_fields-shr-and t s k f m rest bf bm) in
    let over = ap (λ y. y * 2 ^ t + masked) shifted in
    let next = map_fields (t + s) k (λ v. bit_and (f v / 2 ^ s) m) rest in
    let back : (next * 2 ^ s) * 2 ^ t + masked ≡ next * 2 ^ (t + s) + masked =
    omega arith ∙ ap (λ p. next * p + masked) (sym (pow-add 2 t s)) in
    cut ∙ block ∙ over ∙ back

-- ---- sums over the fields

-- the sum of f over the fields
unfoldable pub sum_fields : ℕ → ℕ → (ℕ → ℕ) → ℕ → ℕ
sum_fields w zero f x = 0
sum_fields w (suc k) f x = sum_fields w k f (x / 2 ^ w) + f (x % 2 ^ w)

pub count_ones-map_fields : (w k : ℕ) (f : ℕ → ℕ) (x : ℕ) → Stays w f
    → count_ones (map_fields w k f x) ≡ sum_fields w k (λ v. count_ones (f v)) x
unfolding map_fields sum_fields ones ones_in
count_ones-map_fields w zero f x bf = refl
count_ones-map_fields w (suc k) f x bf =
    ones_cat w (map_fields w k f (x / 2 ^ w)) (f (x % 2 ^ w)) (bf.below _ (field_below w x))
    ∙ ap (λ y. y + count_ones (f (x % 2 ^ w))) (count_ones-map_fields w k f (x / 2 ^ w) bf)

-- the ones of the k lowest fields
pub sum_fields-count_ones : (w k x : ℕ) → sum_fields w k count_ones x ≡ count_ones (x % 2 ^ (k * w))
unfolding sum_fields ones ones_in
sum_fields-count_ones w zero x = let e : x % 2 ^ (0 * w) ≡ 0 = rw zero-mul (omega arith) in sym (ap count_ones e)
sum_fields-count_ones w (suc k) x =
    ap (λ y. y + count_ones (x % 2 ^ w)) (sum_fields-count_ones w k (x / 2 ^ w))
    ∙ sym (ones_cat w (x / 2 ^ w % 2 ^ (k * w)) (x % 2 ^ w) (field_below w x))
    ∙ ap count_ones (sym (mod-pow-add x (k * w) w) ∙ ap (λ j. x % 2 ^ j) (sym (suc-mul k w)))

pub sum_fields-same : (w k : ℕ) (f g : ℕ → ℕ) (x : ℕ) → ((v : ℕ) → v < 2 ^ w → f v ≡ g v) → sum_fields w k f x ≡ sum_fields w k g x
unfolding sum_fields
sum_fields-same w zero f g x same = refl
sum_fields-same w (suc k) f g x same =
    ap₂ (λ a b. a + b) (sum_fields-same w k f g (x / 2 ^ w) same) (same (x % 2 ^ w) (field_below w x))

-- ---- fields of a byte, as a list

-- two maps that agree at each byte
pub map_fields-same_bytes : (k : ℕ) (f g : ℕ → ℕ) (x : ℕ) → All (λ v. f v ≡ g v) (low_bytes k x) → map_fields 8 k f x ≡ map_fields 8 k g x
unfolding map_fields low_bytes
map_fields-same_bytes zero f g x same = refl
map_fields-same_bytes (suc k) f g x same =
    let rest = map_fields-same_bytes k f g (x / 256) (λ i d h. same (suc i) d (suc-le-suc h)) in
    ap₂ (λ a b. a * 256 + b) rest (same 0 0 (zero-lt-suc _))

-- the bytes of the number whose bytes are f at those of x
pub low_bytes-map_fields : (k : ℕ) (f : ℕ → ℕ) (x : ℕ) → Stays 8 f → low_bytes k (map_fields 8 k f x) ≡ map f (low_bytes k x)
unfolding map_fields low_bytes
low_bytes-map_fields zero f x stays = refl
low_bytes-map_fields (suc k) f x stays =
    low_bytes-cat k (map_fields 8 k f (x / 256)) (f (x % 256)) (stays.below _ (field_below 8 x))
    ∙ ap (λ l. f (x % 256) ∷ l) (low_bytes-map_fields k f (x / 256) stays)

pub sum_fields-count_by : (p : ℕ → Bool) (k x : ℕ) → sum_fields 8 k (λ v. cond (p v) 1 0) x ≡ count_by p (low_bytes k x)
unfolding sum_fields low_bytes
sum_fields-count_by p zero x = refl
sum_fields-count_by p (suc k) x =
    ap (λ n. n + cond (p (x % 256)) 1 0) (sum_fields-count_by p k (x / 256))
    ∙ add_comm _ _
    ∙ sym (sum_by-cons (λ v. cond (p v) 1 0) (x % 256) (low_bytes k (x / 256)))

-- the running sums of f over the k lowest bytes of n, from a
unfoldable pub running_sums : (ℕ → ℕ) → ℕ → ℕ → ℕ → List ℕ
running_sums f a zero n = []
running_sums f a (suc k) n = (a + f (n % 256)) ∷ running_sums f (a + f (n % 256)) k (n / 256)

pub get_or-running_sums : (f : ℕ → ℕ) (a k i n : ℕ) → i < k → get_or (running_sums f a k n) i 0 ≡ a + sum_fields 8 (suc i) f n
unfolding running_sums sum_fields
get_or-running_sums f a zero i n inside = absurd (not-suc-le-zero inside)
get_or-running_sums f a (suc k) zero n inside = ap (λ m. a + m) (sym (zero-add (f (n % 256))))
get_or-running_sums f a (suc k) (suc i) n inside =
    omega (arith, get_or-running_sums f (a + f (n % 256)) k i (n / 256) (le_of_suc-le-suc inside))
