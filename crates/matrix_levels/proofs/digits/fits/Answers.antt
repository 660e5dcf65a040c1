-- A number with nothing above its lowest digits has no more than these.
use Rattle.std.proofs.Common.{eqb-true, eq-eqb}
use Rattle.matrix_levels.proofs.lemmas.PrefixLemmas.{begins-nothing, fits-from-nothing}
use Rattle.matrix_levels.proofs.digits.fits.Goals as goal

pub returns-else-width-eq64 : goal.returns-else-width-eq64
returns-else-width-eq64 c =
    ((λ t. fits-from-nothing _ _ (eqb-true _ _ t)), (λ h. eq-eqb _ _ (begins-nothing _ _ h)))
