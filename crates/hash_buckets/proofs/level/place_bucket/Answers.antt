-- The stretch to the bucket's end is its hashes, which are placed.
use Rattle.std.proofs.Common.{◌≡◌, ◌-◌, ◌<◌, ℕ, List, Bool, take, drop, length, slice_index, slice_set, sym, ap, ◌∙◌, ⊎_elim, subst, arith}
use Rattle.std.proofs.lemmas.Bool.{cases_eq}
use Rattle.bit_lists.specs.Bits.{bits_of}
use Rattle.hash_buckets.specs.Groups.{bucket_group}
use Rattle.hash_buckets.specs.Seeds.{count_at, AddsBits, AddsSlots}
use Rattle.hash_buckets.proofs.lemmas.PlacedLemmas.{placed-none, placed-some}
use Rattle.hash_buckets.proofs.level.place_bucket.Goals as goal

pub returns-clause-marks : goal.returns-clause-marks
returns-clause-marks c =
    let level = c.args.level.now in
    let hashes = c.args._hashes.now in
    let bucket = c.args.bucket in
    let seeds = c.args.seeds.now in
    let seed = c.place.result in
    let used = bits_of c.args.used.now in
    let inside : bucket < length seeds = omega (arith, c.if-bucket-seeds.false) in
    let few : bucket < level.buckets = omega (arith, inside, c.requires.same) in
    let group : c.between-hashes.result.now ≡ bucket_group level hashes bucket =
    c.between-hashes.ensures
    ∙ ap (λ (b : ℕ). take (slice_index c.args.ends.now bucket - b) (drop b c.args.sorted.now)) c.begin_of-from.ensures
    ∙ c.requires.grouped.are bucket few in
    let P : List ℕ → Type 0 = λ hs. AddsBits used (count_at level seed c.args.first hs) (bits_of c.place.new.used) in
    let Q : List Bool → Type 0 = λ bits. AddsSlots level c.args.first hashes used seeds bits (slice_set seeds bucket seed) in
    ⊎_elim
    (λ none. subst Q (ap bits_of (sym (c.place.ensures.kept none)))
    (placed-none level seeds c.args.first bucket seed hashes used inside c.if-seeds-bucket-ne0.false none))
    (λ some. placed-some level seeds c.args.first bucket seed hashes used (bits_of c.place.new.used) inside c.if-seeds-bucket-ne0.false some
    (subst P group (c.place.ensures.marks some)))
    (cases_eq seed 0)
