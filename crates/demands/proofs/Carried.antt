-- No signature can be carried over: of a panel that meets its contracts, by what its orders are made of (ctap1_stated's `made_of`) and the layouts (signing_stated).
use Prim.Native.Nat.{ℕ, ◌+◌, ◌-◌, ◌<◌, ◌≤◌}
use mathlib.Core.Path.{◌≡◌, refl, ap, ap₂, sym, subst, ◌∙◌}
use mathlib.Core.Bool.{Bool, true, false}
use mathlib.Core.List.{List}
use native.Mathlib.Omega.{arith}
use lib.Dec.{eqb}
use lib.ListN.{length, take, drop}
use Rattle.outcome.specs.Notation.{when◌then◌else◌}
use Rattle.outcome.specs.Outcome.{Gives}
use Rattle.octets.proofs.Laws.{part_within}
use Rattle.octets.specs.Bytes.{part_of}
use Rattle.apdu_stated.specs.Answers.{Says}
use Rattle.command_stated.specs.Command.{Command, command_of, application_of, challenge_of}
use Rattle.command_stated.proofs.Laws.{CutAtPlaces}
use Rattle.signing_stated.specs.Replies.{bytes_at}
use Rattle.signing_stated.specs.Layouts.{RegisterFields}
use Rattle.signing_stated.specs.Words.{Order}
use Rattle.signing_stated.specs.Orders.{AuthenticateParts, register_order_of, authenticate_order_for}
use Rattle.signing_stated.specs.Terms.{RegisterLengths, PartsLengths, signed_bytes, IsEnrolment, IsLogin}
use Rattle.signing_stated.proofs.Theorems as Signing
use Rattle.u2f_up_stated.specs.Numbers.{presence_in}
use Rattle.ctap1_stated.specs.Words.{Inputs, inputs_from, enrolment_of}
use Rattle.ctap1_stated.specs.Numbers.{hardware_of}
use Rattle.std.specs.Prelude.{Some, None}
use Rattle.ctap1_stated.proofs.Laws.{enrolment_in, login_in, MadeOf, of_enrolment, of_login, made_of}
use Rattle.session_stated.specs.Held.{remainder_in}
use Rattle.session_stated.specs.Promises.{inputs_in}
use Rattle.panel_stated.specs.declared.CommandSaid.{CommandSaid}
use Rattle.panel_stated.specs.declared.OrderNumbers.{OrderNumbers}
use Rattle.panel_stated.specs.Exports.{ToDecide, command_numbers}
use Rattle.demands.specs.Panel.{Panel, Meets}
use Rattle.demands.specs.Carried.{Orders, signed, enrolment, login, NoneCarriesOver}
use Rattle.demands.specs.Answers.{SignsLent}
use Rattle.demands.proofs.Answers.{order_given, order_numbers, order_block}

-- 32 bytes of a frame, from a place that is said
field : (frame cut : List ℕ) (place start end : ℕ) → place ≡ start → end ≡ start + 32 → end ≤ length frame → cut ≡ part_of frame start end → bytes_at place 32 frame ≡ cut
field frame cut place start end at long within is =
    let count : 32 ≡ end - start = omega (arith, long) in
    ap₂ (λ (n k : ℕ). take k (drop n frame)) at count ∙ part_within frame start end (omega (arith, long)) within ∙ sym is

-- a counter that is offered is the number that was lent
offered : (yes : Bool) (n m : ℕ) → (when yes then Some n else None) ≡ Some m → n ≡ m
offered true n m e = cc
offered false n m e = let z : ◌≡◌ {A = ℕ} 0 1 = cc in absurd (omega arith)

-- what a decision is lent, with this frame to be decided; `inputs_in i` is that with its own
abbrev deciding : (frame : List ℕ) → ToDecide → Inputs
deciding frame i =
    inputs_from i.side frame (hardware_of i.hardware) (enrolment_of i.new_handle i.certificate i.x i.y) (length i.reply) (remainder_in i.session) (length i.part)

module _ (P : Panel) (M : Meets P) where
  -- a command's application and challenge, by the places that are said of it
  parts : (frame : List ℕ) (said : Says) → (P.read_command frame).application ≡ said.data_at + 32 → (P.read_command frame).challenge ≡ said.data_at → said.data_at + 64 ≤ length frame
      → (bytes_at (P.read_command frame).application 32 frame ≡ application_of frame said) × (bytes_at (P.read_command frame).challenge 32 frame ≡ challenge_of frame said)
  parts frame said a d within = (
    field frame _ _ _ _ a (omega arith) within (CutAtPlaces.application_cut frame said),
    field frame _ _ _ _ d refl (omega arith) (CutAtPlaces.challenge_cut frame said),
  )

  reads : (frame : List ℕ) (c : Command) → command_of frame ≡ Gives c → P.read_command frame ≡ command_numbers (Gives c)
  reads frame c e = M.read_command frame ∙ ap command_numbers e

  -- what the signer sees of an order, by the fields of its input
  data Signs (frame : List ℕ) (i : ToDecide) (s : List ℕ) : (kind : ℕ) → Type 0 where
    enrols : (f : RegisterFields) (c : ℕ) → RegisterLengths f → enrolment P frame i ≡ f → s ≡ signed_bytes (register_order_of f c) → Signs frame i s 1
    logs : (p : AuthenticateParts) → PartsLengths p → login P frame i ≡ p → s ≡ signed_bytes (authenticate_order_for p) → Signs frame i s 2

  -- of an order that is made of what is lent, whichever frame is decided
  signs_made : (frame : List ℕ) (i : ToDecide) (s : List ℕ) (k l : ℕ) (o : Order) → MadeOf (deciding frame i) k o → l ≡ k → s ≡ signed_bytes o → Signs frame i s l
  signs_made frame i s _ l _ (of_enrolment said c lengths) e is =
      let r = reads frame _ c in
      let within = CutAtPlaces.register_within frame said c in
      let (a, d) = parts frame said (ap (λ (r : CommandSaid). r.application) r) (ap (λ (r : CommandSaid). r.challenge) r) within.2 in
      rw e (enrols (enrolment_in (deciding frame i) said) _ lengths (λ j. record { application = a j; challenge = d j; handle = i.new_handle; x = i.x; y = i.y }) is)
  signs_made frame i s _ l _ (of_login p1 n said c counter lengths) e is =
      let r = reads frame _ c in
      let within = CutAtPlaces.authenticate_within frame p1 said c in
      let (a, d) = parts frame said (ap (λ (r : CommandSaid). r.application) r) (ap (λ (r : CommandSaid). r.challenge) r) (omega (arith, within.2, within.3, within.4)) in
      let present = ap (λ (r : CommandSaid). eqb r.p1 0x03) r in
      let h = i.hardware in
      let number = offered (eqb h.counted 1) h.counter n counter in
      rw e (logs (login_in (deciding frame i) said p1 n) lengths (λ j. record { application = a j; challenge = d j; present = present j; counter = number j }) is)

  signs : (k : ℕ) (i : ToDecide) → Orders P k i → Signs i.frame i (signed P i) k
  signs k i (ordered, kind, x, y) =
      let numbers = order_numbers P M i ordered in
      signs_made i.frame i (signed P i) _ k _ (made_of (presence_in i.presence) i.moment (inputs_in i) (x, y) (order_given P M i ordered))
      (sym kind ∙ ap (λ (n : OrderNumbers). n.kind) numbers)
      (ap₂ (λ (n : OrderNumbers) (b : List ℕ). take n.to_sign b) numbers (order_block P M i ordered))

  -- ---- two of them
  told_apart : {f g : List ℕ} {i j : ToDecide} {s t : List ℕ} (k l : ℕ) → k ≡ 1 → l ≡ 2 → Signs f i s k → Signs g j t l → s ≡ t → ⊥
  told_apart _ _ k l (enrols f c m e is) (logs p n d are) same = (Signing.NoneCarriesOver).apart f c p m n (sym is ∙ same ∙ are)
  told_apart _ _ k l (enrols f c m e is) (enrols g d n u are) same = absurd (omega arith)
  told_apart _ _ k l (logs p n d are) q same = absurd (omega arith)

  same_enrolment : {f g : List ℕ} {i j : ToDecide} {s t : List ℕ} (k l : ℕ) → k ≡ 1 → l ≡ 1 → Signs f i s k → Signs g j t l → s ≡ t → enrolment P f i ≡ enrolment P g j
  same_enrolment _ _ k l (enrols f c m e is) (enrols g d n u are) same = e ∙ (Signing.NoneCarriesOver).enrolments f g c d m n (sym is ∙ same ∙ are) ∙ sym u
  same_enrolment _ _ k l (enrols f c m e is) (logs p n d are) same = absurd (omega arith)
  same_enrolment _ _ k l (logs p n d are) q same = absurd (omega arith)

  same_login : {f g : List ℕ} {i j : ToDecide} {s t : List ℕ} (k l : ℕ) → k ≡ 2 → l ≡ 2 → Signs f i s k → Signs g j t l → s ≡ t → login P f i ≡ login P g j
  same_login _ _ k l (logs p m e is) (logs q n u are) same = e ∙ (Signing.NoneCarriesOver).logins p q m n (sym is ∙ same ∙ are) ∙ sym u
  same_login _ _ k l (logs p m e is) (enrols g d n u are) same = absurd (omega arith)
  same_login _ _ k l (enrols f c m e is) q same = absurd (omega arith)

  pub none_carries_over : NoneCarriesOver P
  none_carries_over = record {
    apart = λ i j a b e. told_apart 1 2 refl refl (signs 1 i a) (signs 2 j b) e;
    enrolments = λ i j a b e. same_enrolment 1 1 refl refl (signs 1 i a) (signs 1 j b) e;
    logins = λ i j a b e. same_login 2 2 refl refl (signs 2 i a) (signs 2 j b) e;
  }

  -- ---- and each is FIDO's message of what was lent
  is_enrolment : {f : List ℕ} {i : ToDecide} {s : List ℕ} (k : ℕ) → k ≡ 1 → Signs f i s k → IsEnrolment (enrolment P f i) s
  is_enrolment {s = s} _ k (enrols f c m e is) = subst (λ (g : RegisterFields). IsEnrolment g s) (sym e) (subst (IsEnrolment f) (sym is) ((Signing.SignsFido).registration f c m))
  is_enrolment _ k (logs p n d are) = absurd (omega arith)

  is_login : {f : List ℕ} {i : ToDecide} {s : List ℕ} (k : ℕ) → k ≡ 2 → i.hardware.counter < 0x100000000 → Signs f i s k → IsLogin (login P f i) s
  is_login {s = s} _ k low (logs p m e is) =
      let small : p.counter < 0x100000000 = omega (arith, low, ap (λ (q : AuthenticateParts). q.counter) e) in
      subst (λ (q : AuthenticateParts). IsLogin q s) (sym e) (subst (IsLogin p) (sym is) ((Signing.SignsFido).authentication p m small))
  is_login _ k low (enrols f c m e is) = absurd (omega arith)

  pub signs_lent : SignsLent P
  signs_lent = record { enrolments = λ i a. is_enrolment 1 refl (signs 1 i a); logins = λ i a low. is_login 2 refl low (signs 2 i a) }
