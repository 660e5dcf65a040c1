-- What is opened is sound where it is verified and holds strings.
use Rattle.std.proofs.Common.{subst, sym}
use Rattle.hash_block.specs.StringsParts.{AreStrings}
use Rattle.hash_block.proofs.strings.opening.check.Goals as goal

pub returns-then-is_verified : goal.returns-then-is_verified
returns-then-is_verified c =
    let opened = c.in-Some.ensures in (
      λ yes. record {
        string_block = opened.0;
        verified = (c.is_verified.ensures.0 c.if-is_verified.true).1;
        strings = subst AreStrings opened.1 (c.check.ensures.0 yes);
      },
      λ sound. c.check.ensures.1 (subst AreStrings (sym opened.1) sound.strings),
    )
