-- Only the definition meets each claim: two functions that meet it agree on every input.
use Prim.Native.Nat.{ℕ, ◌<◌}
use mathlib.Core.Path.{◌≡◌, refl, sym, ◌∙◌}
use native.Mathlib.Omega.{arith}
use native.Mathlib.Decide.{dec_lt, ℕ_discrete}
use Rattle.outcome.specs.Notation.{Determines2, Determines3}
use Rattle.outcome.specs.Outcome.{Outcome, R, Word, Gives}
use Rattle.outcome.proofs.Laws.{r_gives, r_word, word_gives}
use Rattle.apdu_stated.specs.Answers.{Says}
use Rattle.response_stated.specs.declared.Remainder.{Remainder}
use Rattle.ctap1_stated.specs.declared.Hardware.{Hardware}
use Rattle.ctap1_stated.specs.Words.{Inputs, DecisionGives, Body, Ordered, Part}
use Rattle.session_stated.specs.Held.{Session, SessionRecord}
use Rattle.session_stated.specs.Promises.{ToDecide}
use Rattle.session_stated.specs.Terms.{NoShape, TakesAtATime, given, absent, CanTake}
use Rattle.session_stated.specs.Claims
use Rattle.session_stated.proofs.Rooms.{some_take}

-- ---- what is lent by name
pub RemainderStands : (f g : SessionRecord → Remainder) → Claims.RemainderStands f → Claims.RemainderStands g
    → (s : SessionRecord) → f s ≡ g s
RemainderStands f g F G s = F s.place s.count s.limit ∙ sym (G s.place s.count s.limit)

pub SessionStands : (f g : SessionRecord → Session) → Claims.SessionStands f → Claims.SessionStands g
    → (s : SessionRecord) → f s ≡ g s
SessionStands f g F G s = F s.place s.count s.limit ∙ sym (G s.place s.count s.limit)

pub HardwareStands : (f g : ToDecide → Hardware) → Claims.HardwareStands f → Claims.HardwareStands g → (i : ToDecide) → f i ≡ g i
HardwareStands f g F G i = let h = i.hardware in F i h.allowed h.attestation h.stored h.good h.counted h.counter refl ∙ sym (G i h.allowed h.attestation h.stored h.good h.counted h.counter refl)

-- ---- what a transport goes on with
no_says_r : (n : ℕ) → NoShape (R n)
no_says_r n said e = r_gives n said e

module _ (f g : Outcome DecisionGives → Outcome Says → Session → Session) (F : Claims.GoesOnExactly f) (G : Claims.GoesOnExactly g) (s : Session) where
  limits : (answer : Outcome DecisionGives) (read : Outcome Says) → ((k : ℕ) → answer ≡ R k → ⊥) → (f answer read s).limit ≡ (g answer read s).limit
  limits answer (R n) other = F.none answer (R n) s other (no_says_r n) ∙ sym (G.none answer (R n) s other (no_says_r n))
  limits answer (Word w) other = F.none answer (Word w) s other (λ said e. word_gives w said e) ∙ sym (G.none answer (Word w) s other (λ said e. word_gives w said e))
  limits answer (Gives said) other = by (dec_lt said.shape 5) (ℕ_discrete said.le 0)
    where
      by : Dec (said.shape < 5) → Dec (said.le ≡ 0) → (f answer (Gives said) s).limit ≡ (g answer (Gives said) s).limit
      by (yes h) (yes z) = let x : TakesAtATime said 256 = absent (omega (arith, h)) z in F.limit answer said 256 s other x ∙ sym (G.limit answer said 256 s other x)
      by (yes h) (no z) = let x : TakesAtATime said said.le = given (omega (arith, h)) (omega (arith, z)) in F.limit answer said said.le s other x ∙ sym (G.limit answer said said.le s other x)
      by (no h) z = F.no_limit answer said s other (omega (arith, h)) ∙ sym (G.no_limit answer said s other (omega (arith, h)))

  same : (answer : Outcome DecisionGives) (read : Outcome Says) → ((k : ℕ) → answer ≡ R k → ⊥) → (f answer read s).remainder ≡ (g answer read s).remainder → f answer read s ≡ g answer read s
  same answer read other e = λ d. record { remainder = e d; limit = limits answer read other d }

  agree : (answer : Outcome DecisionGives) (read : Outcome Says) → f answer read s ≡ g answer read s
  agree (R n) read = F.refused n read s ∙ sym (G.refused n read s)
  agree (Word w) (R n) = same (Word w) (R n) (λ k e. r_word k w (sym e)) (F.no_shape w (R n) s (no_says_r n) ∙ sym (G.no_shape w (R n) s (no_says_r n)))
  agree (Word w) (Word v) = same (Word w) (Word v) (λ k e. r_word k w (sym e)) (F.no_shape w (Word v) s (λ said e. word_gives v said e) ∙ sym (G.no_shape w (Word v) s (λ said e. word_gives v said e)))
  agree (Word w) (Gives said) = same (Word w) (Gives said) (λ k e. r_word k w (sym e)) (by (ℕ_discrete said.header.ins 0xC0))
    where
      by : Dec (said.header.ins ≡ 0xC0) → (f (Word w) (Gives said) s).remainder ≡ (g (Word w) (Gives said) s).remainder
      by (yes e) = F.kept w said s e ∙ sym (G.kept w said s e)
      by (no e) = F.other_ins w said s e ∙ sym (G.other_ins w said s e)
  agree (Gives (Body n)) read = same (Gives (Body n)) read (λ k e. r_gives k _ (sym e)) (F.body n read s ∙ sym (G.body n read s))
  agree (Gives Ordered) read = same (Gives Ordered) read (λ k e. r_gives k _ (sym e)) (F.order read s ∙ sym (G.order read s))
  agree (Gives (Part n left)) read = same (Gives (Part n left)) read (λ k e. r_gives k _ (sym e)) (F.part n left read s ∙ sym (G.part n left read s))

pub GoesOnExactly : Determines3 Claims.GoesOnExactly
GoesOnExactly f g F G answer read s = agree f g F G s answer read

-- ---- the room for a response
pub FrameRoomExactly : Determines2 Claims.FrameRoomExactly
FrameRoomExactly f g F G frame longest = by (some_take frame longest)
  where
    by : (n : ℕ) × CanTake frame longest n → f frame longest ≡ g frame longest
    by (n, x) = which (dec_lt n 0x10000000000000000)
      where
        which : Dec (n < 0x10000000000000000) → f frame longest ≡ g frame longest
        which (yes h) = (F.says frame longest n).1 (x, h) ∙ sym ((G.says frame longest n).1 (x, h))
        which (no h) = (F.r2 frame longest).1 (n, x, omega (arith, h)) ∙ sym ((G.r2 frame longest).1 (n, x, omega (arith, h)))
