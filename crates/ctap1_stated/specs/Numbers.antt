-- The hardware's answers as numbers: which number stands for what.
use Rattle.ctap1_stated.specs.Words.{ℕ, Bool, eqb, when◌then◌else◌, Allowed, Attestation, Counter, Hardware, HardwareSaid}
use Rattle.ctap1_stated.specs.declared.Allowed.TheVariants as Allowed'
use Rattle.ctap1_stated.specs.declared.Attestation.TheVariants as Attestation'
use Rattle.std.specs.Prelude.{Some, None}

-- 01, The decision: "whether CTAP1 is allowed (yes, no, failed)"
unfoldable pub allowed_of : ℕ → Allowed
allowed_of n =
    when eqb n 0 then Allowed'.No
    else when eqb n 1 then Allowed'.Yes
    else Allowed'.Failed

-- 01, The decision, 5: "the attestation is missing or failed"
unfoldable pub attestation_of : ℕ → Attestation
attestation_of n =
    when eqb n 0 then Attestation'.Missing
    else when eqb n 1 then Attestation'.Present
    else Attestation'.Failed

-- ours: DECISIONS, unknown numbers are the cautious answer: of a question with yes or no 1 is yes, any other number no
abbrev pub is_yes : ℕ → Bool
is_yes n = eqb n 1

-- 01, The decision, 6: "counter answer failed"; "the counter of 32 bits"
abbrev pub counter_of : (counted counter : ℕ) → Counter
counter_of counted n = when is_yes counted then Some n else None

-- 01, The decision: "Lent in: .. and the hardware's answers": each number as the answer of its name
abbrev pub hardware_of : HardwareSaid → Hardware
hardware_of n =
    record {
      allowed = allowed_of n.allowed;
      stored = is_yes n.stored;
      attestation = attestation_of n.attestation;
      good = is_yes n.good;
      counter = counter_of n.counted n.counter;
    }
