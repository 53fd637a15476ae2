-- Only the definition meets each claim: two functions that meet it agree on every input.
use Prim.Native.Nat.{ℕ, zero, suc, ◌<◌, ◌≤◌}
use mathlib.Core.Path.{◌≡◌, refl, sym, ap, ap₂, ◌∙◌}
use mathlib.Core.Bool.{Bool}
use mathlib.Core.List.{List, [], ◌∷◌}
use Rattle.outcome.specs.Notation.{Determines, Determines2, Determines3}
use native.Mathlib.Omega.{arith}
use native.Mathlib.Decide.{ℕ_discrete}
use Rattle.u2f_up_stated.specs.Words.{Outcome, R, Presence, PresenceRecord, Finding}
use Rattle.u2f_up_stated.specs.Moments.{Told}
use Rattle.std.specs.Prelude.{Ok, Err, true, false}
use Rattle.u2f_up_stated.specs.History.{Call, Came, Event, foretold}
use Rattle.u2f_up_stated.specs.Runs.{Caller, after, next, history}
use Rattle.u2f_up_stated.specs.OneSide.{sideless, NamesOnly, OnlySide}
use Rattle.u2f_up_stated.specs.Terms.{BadWindow, BadSide, BadMoment, NotRefused, HasPrompt, HasTouch, SettlesFirst, LiveNumber}
use Rattle.u2f_up_stated.specs.Claims
use Rattle.u2f_up_stated.proofs.Ways.{bad_window, bad_side, bad_moment, has_touch, has_prompt}
use Rattle.u2f_up_stated.proofs.OnNumbers.{live_number}

pub MakesExactly : Determines Claims.MakesExactly
MakesExactly f g F G w = by (bad_window w)
  where
    by : Dec (BadWindow w) → f w ≡ g w
    by (yes b) = (F.r6 w).1 b ∙ sym ((G.r6 w).1 b)
    by (no h) = F.makes w h ∙ sym (G.makes w h)

pub SettlesExactly : Determines3 Claims.SettlesExactly
SettlesExactly f g F G p s t = by (bad_window p.w) (bad_side s p.asker) (bad_moment p.last t)
  where
    by : Dec (BadWindow p.w) → Dec (BadSide s p.asker) → Dec (BadMoment p.last t) → f p s t ≡ g p s t
    by (yes b) n m = (F.r6 p s t).1 b ∙ sym ((G.r6 p s t).1 b)
    by (no w) (yes b) m = (F.r8 p s t).1 (w, b) ∙ sym ((G.r8 p s t).1 (w, b))
    by (no w) (no n) (yes b) = (F.r1 p s t).1 (w, n, b) ∙ sym ((G.r1 p s t).1 (w, n, b))
    by (no w) (no n) (no m) = F.moves p s t (w, n, m) ∙ sym (G.moves p s t (w, n, m))

-- two calls that settle first agree where they refuse; where they do not, what is left to show
module _ (named : Presence → ℕ) (f g : Presence → ℕ → Told) (F : SettlesFirst named f) (G : SettlesFirst named g) (p : Presence) (t : ℕ) where
  same : (f p t).outcome ≡ (g p t).outcome → (f p t).presence ≡ (g p t).presence → f p t ≡ g p t
  same e q = ap₂ (λ (o : Outcome Bool) (r : Presence). record { outcome = o; presence = r }) e q

  refuse : (n : ℕ) → (f p t).outcome ≡ R n → (g p t).outcome ≡ R n → f p t ≡ g p t
  refuse n a b = same (a ∙ sym b) (F.keeps p t n a ∙ sym (G.keeps p t n b))

  settled : (NotRefused p (named p) t → f p t ≡ g p t) → f p t ≡ g p t
  settled more = by (bad_window p.w) (bad_side (named p) p.asker) (bad_moment p.last t)
    where
      by : Dec (BadWindow p.w) → Dec (BadSide (named p) p.asker) → Dec (BadMoment p.last t) → f p t ≡ g p t
      by (yes b) n m = refuse 6 ((F.r6 p t).1 b) ((G.r6 p t).1 b)
      by (no w) (yes b) m = refuse 8 ((F.r8 p t).1 (w, b)) ((G.r8 p t).1 (w, b))
      by (no w) (no n) (yes b) = refuse 1 ((F.r1 p t).1 (w, n, b)) ((G.r1 p t).1 (w, n, b))
      by (no w) (no n) (no m) = more (w, n, m)

pub TouchesExactly : Determines2 Claims.TouchesExactly
TouchesExactly f g F G p t = settled (λ p. p.asker) f g F.settles G.settles p t (λ ok. by ok (has_prompt p t))
  where
    by : NotRefused p p.asker t → Dec (HasPrompt p t) → f p t ≡ g p t
    by ok (yes h) = F.accepts p t ok h ∙ sym (G.accepts p t ok h)
    by ok (no h) = F.otherwise p t ok h ∙ sym (G.otherwise p t ok h)

pub ChecksExactly : Determines3 Claims.ChecksExactly
ChecksExactly f g F G p s t = settled (λ p. s) (λ p t. f p s t) (λ p t. g p s t) (F.settles s) (G.settles s) p t (λ ok. by ok (has_touch p t) (ℕ_discrete p.asker s))
  where
    by : NotRefused p s t → Dec (HasTouch p t) → Dec (p.asker ≡ s) → f p s t ≡ g p s t
    by ok (yes h) (yes o) = F.finds p s t ok h o ∙ sym (G.finds p s t ok h o)
    by ok (yes h) (no o) = F.other p s t ok h o ∙ sym (G.other p s t ok h o)
    by ok (no h) o = F.prompts p s t ok h ∙ sym (G.prompts p s t ok h)

pub FindsExactly : Determines3 Claims.FindsExactly
FindsExactly f g F G p s t = by (has_touch p t) (ℕ_discrete p.asker s)
  where
    by : Dec (HasTouch p t) → Dec (p.asker ≡ s) → f p s t ≡ g p s t
    by (yes h) (yes o) = F.finds p s t h o ∙ sym (G.finds p s t h o)
    by (yes h) (no o) = F.other p s t h o ∙ sym (G.other p s t h o)
    by (no h) o = F.prompts p s t h ∙ sym (G.prompts p s t h)

pub AsksExactly : Determines2 Claims.AsksExactly
AsksExactly f g F G p t = settled (λ p. p.asker) f g F.settles G.settles p t (λ ok. by ok (has_prompt p t))
  where
    by : NotRefused p p.asker t → Dec (HasPrompt p t) → f p t ≡ g p t
    by ok (yes h) = F.live p t ok h ∙ sym (G.live p t ok h)
    by ok (no h) = F.not_live p t ok h ∙ sym (G.not_live p t ok h)

-- ---- the record lent as five numbers
pub StandsExactly : (f g : PresenceRecord → Presence) → Claims.StandsExactly f → Claims.StandsExactly g → (n : PresenceRecord) → f n ≡ g n
StandsExactly f g F G n =
    λ d. record { w = (F.w n ∙ sym (G.w n)) d; prompt = asked n.prompt refl d; touch = touched n.touch refl d; last = (F.last n ∙ sym (G.last n)) d; asker = (F.asker n ∙ sym (G.asker n)) d }
  where
    asked : (k : ℕ) → n.prompt ≡ k → (f n).prompt ≡ (g n).prompt
    asked zero e = (F.prompt_closed n).1 e ∙ sym ((G.prompt_closed n).1 e)
    asked (suc m) e = (F.prompt_opened n m).1 (omega (arith, e)) ∙ sym ((G.prompt_opened n m).1 (omega (arith, e)))

    touched : (k : ℕ) → n.touch ≡ k → (f n).touch ≡ (g n).touch
    touched zero e = (F.touch_closed n).1 e ∙ sym ((G.touch_closed n).1 e)
    touched (suc m) e = (F.touch_opened n m).1 (omega (arith, e)) ∙ sym ((G.touch_opened n m).1 (omega (arith, e)))

pub NumbersExactly : Determines Claims.NumbersExactly
NumbersExactly f g F G t = by (ℕ_discrete t 0xffffffffffffffff)
  where
    by : Dec (t ≡ 0xffffffffffffffff) → f t ≡ g t
    by (yes e) = ap f e ∙ F.greatest ∙ sym G.greatest ∙ ap g (sym e)
    by (no n) = F.next t n ∙ sym (G.next t n)

pub MovesNumbers : (f g : PresenceRecord → ℕ → Presence) → Claims.MovesNumbers f → Claims.MovesNumbers g → (n : PresenceRecord) (t : ℕ) → f n t ≡ g n t
MovesNumbers f g F G n t = F n t ∙ sym (G n t)

pub ChecksNumbers : (f g : PresenceRecord → (side t : ℕ) → Finding) → Claims.ChecksNumbers f → Claims.ChecksNumbers g → (n : PresenceRecord) (s t : ℕ) → f n s t ≡ g n s t
ChecksNumbers f g F G n s t = by (live_number n.touch n.w t) (ℕ_discrete n.asker s)
  where
    own : LiveNumber n.touch n.w t → (r : ℕ) → n.asker ≡ r → f n r t ≡ g n r t
    own h r e = ap (λ (x : ℕ). f n x t) (sym e) ∙ F.finds n t h ∙ sym (G.finds n t h) ∙ ap (λ (x : ℕ). g n x t) e

    by : Dec (LiveNumber n.touch n.w t) → Dec (n.asker ≡ s) → f n s t ≡ g n s t
    by (yes h) (yes o) = own h s o
    by (yes h) (no o) = F.other n s t h o ∙ sym (G.other n s t h o)
    by (no h) o = F.prompts n s t h ∙ sym (G.prompts n s t h)

pub TouchesNumbers : (f g : PresenceRecord → ℕ → Finding) → Claims.TouchesNumbers f → Claims.TouchesNumbers g → (n : PresenceRecord) (t : ℕ) → f n t ≡ g n t
TouchesNumbers f g F G n t = by (live_number n.prompt 10000 t)
  where
    by : Dec (LiveNumber n.prompt 10000 t) → f n t ≡ g n t
    by (yes h) = F.accepts n t h ∙ sym (G.accepts n t h)
    by (no h) = F.otherwise n t h ∙ sym (G.otherwise n t h)

pub AsOnRecords : (f g : Presence → (side t : ℕ) → Finding) (h k : Presence → ℕ → Finding) → Claims.AsOnRecords f h → Claims.AsOnRecords g k
    → (p : Presence) (s t : ℕ) → (f p s t ≡ g p s t) × (h p t ≡ k p t)
AsOnRecords f g h k F G p s t = by (ℕ_discrete t 0xffffffffffffffff)
  where
    by : Dec (t ≡ 0xffffffffffffffff) → (f p s t ≡ g p s t) × (h p t ≡ k p t)
    by (yes e) = (
      ap (f p s) e ∙ checks (has_touch p 0xffffffffffffffff) ∙ ap (g p s) (sym e),
      ap (h p) e ∙ touches (has_prompt p 0xffffffffffffffff) ∙ ap (k p) (sym e),
    )
      where
        checks : Dec (HasTouch p 0xffffffffffffffff) → f p s 0xffffffffffffffff ≡ g p s 0xffffffffffffffff
        checks (yes y) = F.check_live p s _ y ∙ sym (G.check_live p s _ y)
        checks (no n) = F.check_greatest p s n ∙ sym (G.check_greatest p s n)

        touches : Dec (HasPrompt p 0xffffffffffffffff) → h p 0xffffffffffffffff ≡ k p 0xffffffffffffffff
        touches (yes y) = F.touch_greatest p y ∙ sym (G.touch_greatest p y)
        touches (no n) = F.touch_not_live p _ n ∙ sym (G.touch_not_live p _ n)
    by (no n) = (F.check p s t n ∙ sym (G.check p s t n), F.touch p t n ∙ sym (G.touch p t n))

pub BaseExactly : (f g : Presence → ℕ → Outcome Presence) (h k : Presence → ℕ → Finding) → Claims.BaseExactly f h → Claims.BaseExactly g k
    → (p : Presence) (t : ℕ) → (f p t ≡ g p t) × (h p t ≡ k p t)
BaseExactly f g h k F G p t = (by (bad_window p.w) (bad_moment p.last t), found (has_touch p t))
  where
    by : Dec (BadWindow p.w) → Dec (BadMoment p.last t) → f p t ≡ g p t
    by (yes b) m = F.r6 p t b ∙ sym (G.r6 p t b)
    by (no w) (yes b) = F.r1 p t w b ∙ sym (G.r1 p t w b)
    by (no w) (no m) = F.moves p t w m ∙ sym (G.moves p t w m)

    found : Dec (HasTouch p t) → h p t ≡ k p t
    found (yes y) = F.finds p t y ∙ sym (G.finds p t y)
    found (no n) = F.prompts p t n ∙ sym (G.prompts p t n)

-- on runs with one side, two ways of calling that are the base's give the same answers and windows
pub OneSideIsBase : {D : Type 0} (𝒜 ℬ 𝒞 : Caller D) → Claims.OneSideIsBase 𝒜 𝒞 → Claims.OneSideIsBase ℬ 𝒞 → (w : ℕ) → 0 < w → w ≤ 60000 → (s : ℕ) → s ≤ 1
    → (ds : List D) → OnlySide 𝒜 s ds → OnlySide ℬ s ds
    → (sideless (after 𝒜 w ds) ≡ sideless (after ℬ w ds)) × ((d : D) → NamesOnly s (𝒜.as_call d).role → NamesOnly s (ℬ.as_call d).role → next 𝒜 w ds d ≡ next ℬ w ds d)
OneSideIsBase 𝒜 ℬ 𝒞 a b w least most s one ds p q =
    let x = a w least most s one ds p in
    let y = b w least most s one ds q in
    (x.0 ∙ sym y.0, λ d m n. x.1 d m ∙ sym (y.1 d n))

-- demand 3 determines histories: two ways of calling that meet it, and are alike in what their calls are, have the same one on
-- every run
pub Demand3 : {D : Type 0} (𝒜 ℬ : Caller D) → Claims.Demand3 𝒜 → Claims.Demand3 ℬ → ((d : D) → 𝒜.as_call d ≡ ℬ.as_call d)
    → (w : ℕ) → 0 < w → w ≤ 60000 → (ds : List D) → history 𝒜 w ds ≡ history ℬ w ds
unfolding history
Demand3 𝒜 ℬ a b alike w least most [] = refl
Demand3 𝒜 ℬ a b alike w least most (d ∷ ds) =
    let so_far = Demand3 𝒜 ℬ a b alike w least most ds in
    let next_same = (a w least most ds).foretells d ∙ ap₂ (foretold w) so_far (alike d) ∙ sym ((b w least most ds).foretells d) in
    ap₂ (λ (e : Event) (h : List Event). e ∷ h) (ap₂ (λ (c : Call) (o : Came). record { call = c; came = o }) (alike d) next_same) so_far

-- ---- views
pub AnswerExactly : Determines Claims.AnswerExactly
AnswerExactly f g F G (Err why) = (F.refused _ why).1 refl ∙ sym ((G.refused _ why).1 refl)
AnswerExactly f g F G (Ok true) = (F.yes _).1 refl ∙ sym ((G.yes _).1 refl)
AnswerExactly f g F G (Ok false) = (F.no _).1 refl ∙ sym ((G.no _).1 refl)

pub ReadyExactly : Determines Claims.ReadyExactly
ReadyExactly f g F G (Err why) = (F.refused _ why).1 refl ∙ sym ((G.refused _ why).1 refl)
ReadyExactly f g F G (Ok p) = (F.made _ p).1 refl ∙ sym ((G.made _ p).1 refl)

pub StepExactly : Determines Claims.StepExactly
StepExactly f g F G s =
    ap₂ (λ (o : Outcome Bool) (r : Presence). record { outcome = o; presence = r })
    (AnswerExactly _ _ (F.answer s.presence) (G.answer s.presence) s.answer) (F.after s ∙ sym (G.after s))
