-- What the layout tests find, as facts.
use Prim.Native.Nat.{ℕ, zero, suc, ◌+◌, ◌-◌, ◌≤◌}
use mathlib.Core.Bool.{Bool, true, false}
use mathlib.Core.Path.{◌≡◌, refl, sym, ap, subst, ◌∙◌}
use mathlib.Core.Logic.{◌⊎◌, inl, inr}
use mathlib.Core.List.{List, [], ◌∷◌}
use native.Mathlib.Omega.{arith}
use native.Mathlib.Decide.{ℕ_discrete}
use borrow.Author.Tests.{eq-eqb, le-leb, eqb-true, leb-true}
use lib.Dec.{eqb}
use lib.ListN.{drop}
use lib.Seq.{get_or-drop}
use Rattle.octets.specs.Bytes.{byte, all_zero}
use Rattle.octets.proofs.Laws.{both}
use Rattle.signing_stated.specs.Orders.{head_of, Order, Kind, Register, Authenticate, is_register_layout, is_authenticate_layout, is_layout, is_of_layout, to_sign, certificate_length}
use Rattle.signing_stated.specs.Finishing.{register_room, authenticate_room, room_of, room_needed}
use Rattle.signing_stated.specs.Terms.{NeedsRoom, register, authenticate, OfLayout}

pub record RegisterShape (n : ℕ) (b : List ℕ) : Type 0 where
  pub least : 130 ≤ n
  pub most : n ≤ 385
  pub first : byte b 0 ≡ 0x00
  pub marker : byte b (n - 65) ≡ 0x04
  pub rest : all_zero (drop n b) ≡ true

pub record AuthenticateShape (n c : ℕ) (b : List ℕ) : Type 0 where
  pub long : n ≡ 69
  pub presence : byte b 32 ≤ 1
  pub rest : all_zero (drop 69 b) ≡ true
  pub no_certificate : c ≡ 0

pub register_shape : (n : ℕ) (b : List ℕ) → is_register_layout n b ≡ true → RegisterShape n b
unfolding is_register_layout
register_shape n b e =
    let p = both _ _ e in
    let q = both _ _ p.0 in
    let r = both _ _ q.0 in
    let s = both _ _ r.0 in
    record {
      least = leb-true _ _ s.0;
      most = leb-true _ _ s.1;
      first = eqb-true _ _ r.1;
      marker = eqb-true _ _ q.1;
      rest = p.1;
    }

pub shape_register : (n : ℕ) (b : List ℕ) → RegisterShape n b → is_register_layout n b ≡ true
unfolding is_register_layout
shape_register n b s =
    rw (le-leb 130 n s.least, le-leb n 385 s.most, eq-eqb (byte b 0) 0x00 s.first, eq-eqb (byte b (n - 65)) 0x04 s.marker, s.rest)

pub authenticate_shape : (n c : ℕ) (b : List ℕ) → is_authenticate_layout n c b ≡ true → AuthenticateShape n c b
unfolding is_authenticate_layout
authenticate_shape n c b e =
    let p = both _ _ e in
    let q = both _ _ p.0 in
    let r = both _ _ q.0 in
    record {
      long = eqb-true _ _ r.0;
      presence = leb-true _ _ r.1;
      rest = q.1;
      no_certificate = eqb-true _ _ p.1;
    }

pub shape_authenticate : (n c : ℕ) (b : List ℕ) → AuthenticateShape n c b → is_authenticate_layout n c b ≡ true
unfolding is_authenticate_layout
shape_authenticate n c b s =
    rw (eq-eqb n 69 s.long, le-leb (byte b 32) 1 s.presence, s.rest, eq-eqb c 0 s.no_certificate)

module _ (o : Order) where
  pub register_shaped : o.kind ≡ Register → is_of_layout o ≡ true → RegisterShape (to_sign o) o.bytes
  register_shaped k e = register_shape (to_sign o) o.bytes (ap (λ (kind : Kind). is_layout kind o) (sym k) ∙ e)

  pub authenticate_shaped : o.kind ≡ Authenticate → is_of_layout o ≡ true → AuthenticateShape (to_sign o) (certificate_length o) o.bytes
  authenticate_shaped k e =
      authenticate_shape (to_sign o) (certificate_length o) o.bytes (ap (λ (kind : Kind). is_layout kind o) (sym k) ∙ e)

-- ---- the same, byte by byte, as the claims have it
pub zeros_at : (s : List ℕ) → all_zero s ≡ true → (i : ℕ) → byte s i ≡ 0
zeros_at [] e i = refl
zeros_at (x ∷ s) e zero = eqb-true x 0 (both (eqb x 0) (all_zero s) e).0
zeros_at (x ∷ s) e (suc i) = zeros_at s (both (eqb x 0) (all_zero s) e).1 i

pub at_zeros : (s : List ℕ) → ((i : ℕ) → byte s i ≡ 0) → all_zero s ≡ true
at_zeros [] h = refl
at_zeros (x ∷ s) h = rw (eq-eqb x 0 (h 0), at_zeros s (λ i. h (suc i)))

module _ (b : List ℕ) (n : ℕ) where
  pub zeros_from : all_zero (drop n b) ≡ true → (i : ℕ) → n ≤ i → byte b i ≡ 0
  zeros_from e i h =
      let same : i ≡ n + (i - n) = omega arith in
      ap (λ (k : ℕ). byte b k) same ∙ sym (get_or-drop n b (i - n) 0) ∙ zeros_at (drop n b) e (i - n)

  pub from_zeros : ((i : ℕ) → n ≤ i → byte b i ≡ 0) → all_zero (drop n b) ≡ true
  from_zeros h = at_zeros (drop n b) (λ i. get_or-drop n b i 0 ∙ h (n + i) (omega arith))

module _ (o : Order) where
  pub needs_room : is_of_layout o ≡ true → NeedsRoom o (room_needed o)
  needs_room ok = by_kind o.kind refl
    where
      small : byte o.bytes 32 ≤ 1 → (byte o.bytes 32 ≡ 0x00) ⊎ (byte o.bytes 32 ≡ 0x01)
      small h = by_byte (ℕ_discrete (byte o.bytes 32) 0)
        where
          by_byte : Dec (byte o.bytes 32 ≡ 0) → (byte o.bytes 32 ≡ 0x00) ⊎ (byte o.bytes 32 ≡ 0x01)
          by_byte (yes e) = inl e
          by_byte (no n) = inr (omega arith)

      by_kind : (k : Kind) → o.kind ≡ k → NeedsRoom o (room_needed o)
      by_kind Register k =
          let s = register_shaped o k ok in
          let h : ℕ = to_sign o - 130 in
          let at : 65 + (to_sign o - 130) ≡ to_sign o - 65 = omega (arith, s.least) in
          let asked : register_room (to_sign o - 130) (certificate_length o) ≡ room_needed o = ap (λ (kind : Kind). room_of kind (head_of o)) (sym k) in
          subst (λ (n : ℕ). NeedsRoom o n) asked
          (register (to_sign o - 130)
          (record {
            kind = k;
            counts = omega (arith, s.least);
            handle = omega (arith, s.most);
            first = s.first;
            marker = ap (λ (n : ℕ). byte o.bytes n) at ∙ s.marker;
            rest = λ i from. zeros_from o.bytes (to_sign o) s.rest i (omega (arith, s.least));
          }))
      by_kind Authenticate k =
          let s = authenticate_shaped o k ok in
          let asked : authenticate_room ≡ room_needed o = ap (λ (kind : Kind). room_of kind (head_of o)) (sym k) in
          subst (λ (n : ℕ). NeedsRoom o n) asked
          (authenticate
          (record {
            kind = k;
            counts = s.long;
            presence = small s.presence;
            rest = zeros_from o.bytes 69 s.rest;
            no_certificate = s.no_certificate;
          }))

  pub needed : (room : ℕ) → NeedsRoom o room → (is_of_layout o ≡ true) × (room_needed o ≡ room)
  needed _ (register h s) =
      let at : to_sign o - 65 ≡ 65 + h = omega (arith, s.counts) in
      let long : to_sign o - 130 ≡ h = omega (arith, s.counts) in (
        ap (λ (kind : Kind). is_layout kind o) s.kind
            ∙ shape_register (to_sign o) o.bytes
            (record {
              least = omega (arith, s.counts);
              most = omega (arith, s.counts, s.handle);
              first = s.first;
              marker = ap (λ (n : ℕ). byte o.bytes n) at ∙ s.marker;
              rest = from_zeros o.bytes (to_sign o) (λ i from. s.rest i (omega (arith, s.counts)));
            }),
        ap (λ (kind : Kind). room_of kind (head_of o)) s.kind ∙ ap (λ (n : ℕ). register_room n (certificate_length o)) long,
      )
  needed _ (authenticate s) = (
    ap (λ (kind : Kind). is_layout kind o) s.kind
        ∙ shape_authenticate (to_sign o) (certificate_length o) o.bytes
        (record {
          long = s.counts;
          presence = small s.presence;
          rest = from_zeros o.bytes 69 s.rest;
          no_certificate = s.no_certificate;
        }),
    ap (λ (kind : Kind). room_of kind (head_of o)) s.kind,
  )
    where
      small : (byte o.bytes 32 ≡ 0x00) ⊎ (byte o.bytes 32 ≡ 0x01) → byte o.bytes 32 ≤ 1
      small (inl e) = omega arith
      small (inr e) = omega arith

  pub not_of_layout : (OfLayout o → ⊥) → is_of_layout o ≡ false
  not_of_layout none = by_test (is_of_layout o) refl
    where
      by_test : (t : Bool) → is_of_layout o ≡ t → is_of_layout o ≡ false
      by_test true ok = absurd (none (room_needed o, needs_room ok))
      by_test false bad = bad

  pub of_no_layout : is_of_layout o ≡ false → OfLayout o → ⊥
  of_no_layout bad a =
      let z : ◌≡◌ {A = Bool} true false = sym (needed a.0 a.1).0 ∙ bad in let y : ◌≡◌ {A = ℕ} 0 1 = cc in omega arith
