-- What is opened is sound where it is verified and its keys stand at their numbers.
use Rattle.std.proofs.Common.{subst, sym, arith}
use Rattle.bitm_block.specs.Header.{IsVerified}
use Rattle.hash_block.specs.Dictionary.{IsDictionaryIn}
use Rattle.hash_block.proofs.dictionary.check_dictionary.Goals as goal

pub returns-then-verify : goal.returns-then-verify
returns-then-verify c =
    let opened = c.in-Some-Ok.ensures in
    let same = c.in-Some-Ok.ensures'.words in (
      λ yes. record {
        dictionary_block = opened.0;
        verified = subst IsVerified same (c.verify.ensures.0 c.if-verify.true);
        dictionary = subst IsDictionaryIn opened.1 (c.check.ensures.0 yes);
      },
      λ sound. c.check.ensures.1 (subst IsDictionaryIn (sym opened.1) sound.dictionary),
    )

pub returns-else-verify : goal.returns-else-verify
returns-else-verify c =
    let same = c.in-Some-Ok.ensures'.words in (
      λ yes. grind (arith, yes, c.if-verify.false),
      λ sound. c.verify.ensures.1 (subst IsVerified (sym same) sound.verified),
    )
