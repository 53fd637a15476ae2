-- The claims of specs/Claims.antt.
use Prim.Native.Nat.{ℕ, ◌+◌, ◌*◌, ◌/◌, ◌%◌, ◌<◌, ◌≤◌}
use mathlib.Core.Path.{◌≡◌, refl, ap, sym, ◌∙◌}
use mathlib.Core.Bool.{true, ◌&&◌}
use mathlib.Core.List.{List, [], ◌∷◌}
use mathlib.Core.Logic.{◌↔◌}
use native.Mathlib.Omega.{arith}
use borrow.Author.Tests.{ne_eqb, le-leb, leb-true}
use lib.Dec.{leb}
use lib.ListN.{length}
use Rattle.outcome.proofs.Laws.{both_are}
use Rattle.octets.specs.Bytes.{bytes2, laid}
use Rattle.octets.proofs.Laws.{both}
use Rattle.apdu_stated.specs.Table.{le_read, le_bytes}
use Rattle.apdu_stated.proofs.LaidOut.{back_1, back_2, back_3}
use Rattle.apdu_stated.proofs.Sound.{le_1, le_2, le_3, two_back}
use Rattle.apdu_le.specs.Field.{said_of, can_say, put_of}
use Rattle.apdu_le.specs.Claims

pub ReadExactly : Claims.ReadExactly said_of
ReadExactly =
    record {
      absent = refl;
      one_zero = refl;
      one = λ b n. rw (ne_eqb b 0 n);
      two_zero = refl;
      two = λ hi lo n. rw (ne_eqb (hi * 256 + lo) 0 n);
      three = λ x hi lo more.
          let long = length (x ∷ hi ∷ lo ∷ more) in
          rw (ne_eqb long 0 (omega arith), ne_eqb long 1 (omega arith), ne_eqb long 2 (omega arith));
    }

pub PutExactly : Claims.PutExactly put_of
PutExactly =
    record {
      none = λ le old. refl;
      one = λ times b old h. ap (λ (n : ℕ). laid (n ∷ []) old) (omega arith);
      two = λ times hi lo old h l. ap (λ (s : List ℕ). laid s old) (halves times hi lo h l);
      more = λ width times hi lo old some h l.
          rw (ne_eqb width 0 (omega arith), ne_eqb width 1 (omega arith), ne_eqb width 2 (omega arith))
          (ap (λ (s : List ℕ). laid (0 ∷ s) old) (halves times hi lo h l));
    }
  where
    halves : (times hi lo : ℕ) → hi < 256 → lo < 256 → bytes2 ((times * 65536 + (hi * 256 + lo)) % 65536) ≡ hi ∷ lo ∷ []
    halves times hi lo h l =
        let left : (times * 65536 + (hi * 256 + lo)) % 65536 ≡ hi * 256 + lo = omega arith in
        ap bytes2 left ∙ sym (two_back hi lo h l)

-- a number of two bytes, taken apart and joined
joined : (n : ℕ) → n / 256 * 256 + n % 256 ≡ n
joined n = omega arith

pub BothWays : Claims.BothWays said_of le_bytes
BothWays =
    record {
      back_one = λ le low high. sym (back_1 le low high);
      back_two = λ le low high. ap (le_read 2) (joined (le % 65536)) ∙ sym (back_2 le low high);
      back_three = λ le low high. ap (le_read 3) (joined (le % 65536)) ∙ sym (back_3 le low high);
      again_one = λ b h. ap (λ (n : ℕ). n ∷ []) (sym (le_1 b h).back);
      again_two = λ hi lo h l. ap bytes2 (sym (le_2 (hi * 256 + lo) (omega arith)).back) ∙ sym (two_back hi lo h l);
      again_three = λ hi lo h l.
          ap (λ (n : ℕ). 0 ∷ bytes2 n) (sym (le_3 (hi * 256 + lo) (omega arith)).back) ∙ ap (λ (s : List ℕ). 0 ∷ s) (sym (two_back hi lo h l));
    }

within : (low high le : ℕ) → ((leb low le && leb le high) ≡ true) ↔ ((low ≤ le) × (le ≤ high))
within low high le = (
  λ e. let p = both (leb low le) (leb le high) e in (leb-true low le p.0, leb-true le high p.1),
  λ h. rw (le-leb low le h.0, le-leb le high h.1),
)

pub FitsExactly : Claims.FitsExactly can_say
FitsExactly =
    record {
      none = λ le. (λ e. let h = (within 0 0 le).0 e in omega arith, λ z. (within 0 0 le).1 (omega arith, omega arith));
      one = λ le. within 1 256 le;
      more = λ width le h. rw (ne_eqb width 0 (omega arith), ne_eqb width 1 (omega arith)) (within 1 65536 le);
    }

pub ResultsDetermined : Claims.ResultsDetermined
ResultsDetermined =
    record {
      read = λ field a b. both_are a b;
      put = λ width le old a b. both_are a b;
      fits = λ width le a b. both_are a b;
    }
