-- The definitions meet the claims of specs/Claims.antt, each under the claim's own name.
use Prim.Native.Nat.{ℕ, ◌+◌, ◌<◌, ◌≤◌}
use mathlib.Core.Bool.{Bool, true, false}
use mathlib.Core.Path.{◌≡◌, refl, sym, ap, subst, ◌∙◌}
use mathlib.Core.Logic.{◌⊎◌, inl, inr}
use mathlib.Core.List.{List, [], ◌∷◌, ◌++◌}
use native.Mathlib.Omega.{arith}
use borrow.Author.Tests.{le-leb, leb-true}
use lib.Dec.{leb}
use lib.ListN.{length, drop, replicate, length-append, length-replicate}
use Rattle.outcome.specs.Outcome.{Outcome, R, Word, SW, Gives}
use Rattle.outcome.proofs.Laws.{both_are}
use Rattle.octets.specs.Bytes.{byte, bytes4, laid}
use Rattle.octets.proofs.Laws.{laid_fits, length_laid}
use Rattle.octets.proofs.Laws.{length_part}
use Rattle.signing_stated.specs.Claims
use Rattle.signing_stated.specs.Layouts.{RegisterFields, AuthenticateFields, register_to_sign, authenticate_to_sign, register_body, authenticate_body, public_key, presence_byte, is_register_fit, is_authenticate_fit}
use Rattle.signing_stated.specs.Fido.{IsMessage, IsKey, IsCounter, presence_bit, registration_signed, registration_response, authentication_signed}
use Rattle.signing_stated.specs.Orders.{Head, Order, head_of, order_with, Kind, Register, Authenticate, AuthenticateParts, fields_for, kind_no, to_sign, certificate_length, blank_order, register_order_of, authenticate_order_of, authenticate_order_for, block, is_of_layout, register_fields_of, authenticate_fields_of}
use Rattle.signing_stated.specs.Finishing.{register_room, authenticate_room, Finishing, Ended, finish_of, finished_of, end_of, length_of, reply_of, room_needed, body_of}
use Rattle.signing_stated.specs.Terms.{bytes_at, RegisterLengths, AuthenticateLengths, PartsLengths, IsWhole, IsRegisterOrder, IsAuthenticateOrder, HoldsJust, signed_bytes, HoldsMessage, RegisterShaped, AuthenticateShaped, register, authenticate}
use Rattle.signing_stated.proofs.Fit.{lengths_of, register_fit, authenticate_fit, register_lengths, authenticate_lengths, register_order_fit, authenticate_order_fit}
use Rattle.signing_stated.proofs.Shapes.{register_shaped, authenticate_shaped, zeros_from, needed, not_of_layout, of_no_layout}
use Rattle.signing_stated.proofs.FieldsKept.{block_front, register_to_sign_length, authenticate_to_sign_length, register_made_shape, authenticate_made_shape, register_fields_lengths, authenticate_fields_lengths, register_order_of_lem, authenticate_order_of_lem, found, found_in, one_byte}
use Rattle.signing_stated.proofs.Ways.{comes_to_r7, comes_to_r4, comes_to_r2, comes_to_6f00, comes_to_r3, comes_to_body, way, told_r3, told_body, body_within}
use Rattle.signing_stated.proofs.Messages.{key_is, is_key, counter_is, presence_same, bit_small, registration_signed_lem, registered_order, registration_response_lem, authentication_signed_lem, signed_order, authentication_response_lem}
use Rattle.signing_stated.proofs.Numbers.{kind_one_to_one, finished_one_to_one}
use Rattle.signing_stated.proofs.Told.{orders_apart, enrolments_told, logins_told, front_of_login, front_of_enrolment}
use Rattle.signing_stated.proofs.Spelled.{four_at, register_spelled, authenticate_spelled}
use Rattle.signing_stated.proofs.Made
use Rattle.signing_stated.proofs.Made.{made_of_layout, blank_refused, room_of_made, fields_kept}

-- ---- numbers and results
pub KindNumbers : Claims.KindNumbers kind_no
KindNumbers = record { register = refl; authenticate = refl }

pub KindOneToOne : Claims.KindOneToOne kind_no
KindOneToOne = kind_one_to_one

pub FinishedOneToOne : Claims.FinishedOneToOne finished_of
FinishedOneToOne = finished_one_to_one

pub FinishedExactly : Claims.FinishedExactly finished_of
FinishedExactly =
    record {
      refused = λ a why. (finished_one_to_one _ _, ap finished_of);
      status = λ a s. (finished_one_to_one _ _, ap finished_of);
      body = λ a n. (finished_one_to_one _ _, ap finished_of);
    }

pub ResultsDetermined : Claims.ResultsDetermined
ResultsDetermined =
    record {
      kind_number = λ k a b. both_are a b;
      blank = λ a b. both_are a b;
      register_order = λ f c a b p q. apart a b (both_are _ _ p q);
      authenticate_order = λ k a b p q. apart a b (both_are _ _ p q);
      has_layout = λ head block a b. both_are a b;
      has_register_room = λ room h c a b. both_are a b;
      has_authenticate_room = λ room a b. both_are a b;
      finish =
          λ head block certificate signed signature reply a b p q.
          let answers : a.0 ≡ b.0 = finished_one_to_one a.0 b.0 (p.says ∙ sym q.says) in
          let buffers : a.1 ≡ b.1 = p.leaves ∙ sym q.leaves in
          λ d. (answers d, buffers d);
    }
  where
    apart : (a b : Head × List ℕ) → order_with a.0 a.1 ≡ order_with b.0 b.1 → a ≡ b
    apart a b e = λ d. (head_of (e d), (e d).bytes)

-- ---- orders
block_length : (s : List ℕ) → length (block s) ≡ 385
unfolding block
block_length s = length_laid s (replicate 385 0) ∙ length-replicate {A = ℕ} 385 0

pub BlankExactly : Claims.BlankExactly blank_order
unfolding blank_order block
BlankExactly = record { kind = refl; counts = refl; certificate = refl; zeros = refl }

register_unfit : (f : RegisterFields) (c : ℕ) → (RegisterLengths f → ⊥) → register_order_of f c ≡ blank_order
unfolding register_order_of
register_unfit f c none = by_fit (is_register_fit f) refl
  where
    by_fit : (t : Bool) → is_register_fit f ≡ t → register_order_of f c ≡ blank_order
    by_fit true fit = absurd (none (register_lengths f fit))
    by_fit false bad = rw bad

pub MakesRegister : Claims.MakesRegister register_order_of
MakesRegister =
    record {
      kind = λ f c l. ap (λ (o : Order). o.kind) (register_order_fit f c l);
      counts = λ f c l. ap to_sign (register_order_fit f c l);
      certificate = λ f c l. ap certificate_length (register_order_fit f c l);
      whole = λ f c l. ap length (bytes_are f c l) ∙ block_length (register_to_sign f);
      first = λ f c l. ap (λ (b : List ℕ). byte b 0) (bytes_are f c l) ∙ (register_made_shape f l).first;
      application = λ f c l. ap (bytes_at 1 32) (bytes_are f c l) ∙ (found f l).application;
      challenge = λ f c l. ap (bytes_at 33 32) (bytes_are f c l) ∙ (found f l).challenge;
      handle = λ f c l. ap (bytes_at 65 (length f.handle)) (bytes_are f c l) ∙ (found f l).handle;
      marker =
          λ f c l.
          ap (λ (b : List ℕ). byte b (65 + length f.handle)) (bytes_are f c l)
          ∙ one_byte (block (register_to_sign f)) (65 + length f.handle) 0x04 (found f l).marker;
      x = λ f c l. ap (bytes_at (66 + length f.handle) 32) (bytes_are f c l) ∙ (found f l).x;
      y = λ f c l. ap (bytes_at (98 + length f.handle) 32) (bytes_are f c l) ∙ (found f l).y;
      rest =
          λ f c l i from.
          ap (λ (b : List ℕ). byte b i) (bytes_are f c l)
          ∙ zeros_from (block (register_to_sign f)) (130 + length f.handle) (register_made_shape f l).rest i from;
      unfit = λ f c none. rw (register_unfit f c none) BlankExactly;
    }
  where
    bytes_are : (f : RegisterFields) (c : ℕ) → RegisterLengths f → (register_order_of f c).bytes ≡ block (register_to_sign f)
    bytes_are f c l = ap (λ (o : Order). o.bytes) (register_order_fit f c l)

authenticate_unfit : (p : AuthenticateParts) → (PartsLengths p → ⊥) → authenticate_order_for p ≡ blank_order
unfolding authenticate_order_of
authenticate_unfit p none = by_fit (is_authenticate_fit (fields_for p)) refl
  where
    by_fit : (t : Bool) → is_authenticate_fit (fields_for p) ≡ t → authenticate_order_for p ≡ blank_order
    by_fit true fit =
        let l = authenticate_lengths (fields_for p) fit in
        absurd (none (record { application = l.application; challenge = l.challenge }))
    by_fit false bad = rw bad

pub MakesAuthenticate : Claims.MakesAuthenticate authenticate_order_for
MakesAuthenticate =
    record {
      kind = λ p l. ap (λ (o : Order). o.kind) (fits p l);
      counts = λ p l. ap to_sign (fits p l);
      certificate = λ p l. ap certificate_length (fits p l);
      whole = λ p l. ap length (bytes_are p l) ∙ block_length (authenticate_to_sign (fields_for p));
      application = λ p l. ap (bytes_at 0 32) (bytes_are p l) ∙ (found_in (fields_for p) (lengths_of p l)).application;
      present = λ p l is. presence_at p l ∙ ap presence_byte is;
      absent = λ p l is. presence_at p l ∙ ap presence_byte is;
      counter_1 = λ p l. ap (λ (s : List ℕ). byte s 0) (counter_at p l);
      counter_2 = λ p l. ap (λ (s : List ℕ). byte s 1) (counter_at p l);
      counter_3 = λ p l. ap (λ (s : List ℕ). byte s 2) (counter_at p l);
      counter_4 = λ p l. ap (λ (s : List ℕ). byte s 3) (counter_at p l);
      challenge = λ p l. ap (bytes_at 37 32) (bytes_are p l) ∙ (found_in (fields_for p) (lengths_of p l)).challenge;
      rest =
          λ p l i from.
          ap (λ (b : List ℕ). byte b i) (bytes_are p l)
          ∙ zeros_from (block (authenticate_to_sign (fields_for p))) 69 (authenticate_made_shape (fields_for p) (lengths_of p l)).rest i from;
      unfit = λ p none. rw (authenticate_unfit p none) BlankExactly;
    }
  where
    fits : (p : AuthenticateParts) → PartsLengths p
        → authenticate_order_for p ≡ record { kind = Authenticate; to_sign = 69; certificate_length = 0; bytes = block (authenticate_to_sign (fields_for p)) }
    fits p l = authenticate_order_fit (fields_for p) (lengths_of p l)

    bytes_are : (p : AuthenticateParts) → PartsLengths p → (authenticate_order_for p).bytes ≡ block (authenticate_to_sign (fields_for p))
    bytes_are p l = ap (λ (o : Order). o.bytes) (fits p l)

    presence_at : (p : AuthenticateParts) → PartsLengths p → byte (authenticate_order_for p).bytes 32 ≡ presence_byte p.present
    presence_at p l =
        ap (λ (b : List ℕ). byte b 32) (bytes_are p l)
        ∙ one_byte (block (authenticate_to_sign (fields_for p))) 32 (presence_byte p.present) (found_in (fields_for p) (lengths_of p l)).presence

    counter_at : (p : AuthenticateParts) → PartsLengths p
        → byte (authenticate_order_for p).bytes 33 ∷ byte (authenticate_order_for p).bytes 34 ∷ byte (authenticate_order_for p).bytes 35 ∷ byte (authenticate_order_for p).bytes 36 ∷ []
        ≡ bytes4 p.counter
    counter_at p l =
        let long : length (authenticate_order_for p).bytes ≡ 385 = ap length (bytes_are p l) ∙ block_length (authenticate_to_sign (fields_for p)) in
        sym (four_at (authenticate_order_for p).bytes 33 (omega arith))
        ∙ ap (bytes_at 33 4) (bytes_are p l)
        ∙ (found_in (fields_for p) (lengths_of p l)).counter

pub BytesToSign : Claims.BytesToSign register_order_of authenticate_order_of
BytesToSign = (for_register, for_authenticate)
  where
    for_register : (f : RegisterFields) (c : ℕ) → is_register_fit f ≡ true
        → HoldsJust (register_to_sign f) (130 + length f.handle) (register_order_of f c)
    for_register f c fit =
        let l = register_lengths f fit in
        rw (register_order_fit f c l)
        (refl, block_front (register_to_sign f) (130 + length f.handle) (register_to_sign_length f l) (omega (arith, l.handle)), (register_made_shape f l).rest)

    for_authenticate : (f : AuthenticateFields) → is_authenticate_fit f ≡ true → HoldsJust (authenticate_to_sign f) 69 (authenticate_order_of f)
    for_authenticate f fit =
        let l = authenticate_lengths f fit in
        rw (authenticate_order_fit f l)
        (refl, block_front (authenticate_to_sign f) 69 (authenticate_to_sign_length f l) (omega arith), (authenticate_made_shape f l).rest)

pub FieldsKept : Claims.FieldsKept register_fields_of authenticate_fields_of
FieldsKept = Made.fields_kept

pub NoneCarriesOver : Claims.NoneCarriesOver register_order_of authenticate_order_for
NoneCarriesOver = record { apart = orders_apart; enrolments = enrolments_told; logins = logins_told }

pub NotRuledOut : Claims.NotRuledOut register_order_of authenticate_order_of
NotRuledOut = record { login = λ f c l. front_of_login f l c; enrolment = λ f c d x y l. front_of_enrolment f l c d x y }

pub LayoutExactly : Claims.LayoutExactly is_of_layout
LayoutExactly o whole = (is_made o.kind refl, is_judged)
  where
    is_made : (k : Kind) → o.kind ≡ k → is_of_layout o ≡ true → IsRegisterOrder o ⊎ IsAuthenticateOrder o
    is_made Register k ok =
        let s = register_shaped o k ok in
        inl (
          register_fields_of (to_sign o) o.bytes,
          certificate_length o,
          register_fit _ (register_fields_lengths (to_sign o) o.bytes whole s),
          register_order_of_lem (to_sign o) o.bytes whole s o k refl refl,
        )
    is_made Authenticate k ok =
        let s = authenticate_shaped o k ok in
        inr (
          authenticate_fields_of o.bytes,
          authenticate_fit _ (authenticate_fields_lengths o.bytes whole (to_sign o) (certificate_length o) s),
          authenticate_order_of_lem o.bytes whole (to_sign o) (certificate_length o) s o k refl refl refl,
        )

    is_judged : IsRegisterOrder o ⊎ IsAuthenticateOrder o → is_of_layout o ≡ true
    is_judged (inl m) = ap is_of_layout m.3 ∙ (Made.made_of_layout).0 m.0 m.1 m.2
    is_judged (inr m) = ap is_of_layout m.2 ∙ (Made.made_of_layout).1 m.0 m.1

-- ---- room
pub RegisterRoomExactly : Claims.RegisterRoomExactly (λ room h c. leb (register_room h c) room)
RegisterRoomExactly room h c = (leb-true (register_room h c) room, λ enough. le-leb (register_room h c) room enough)

pub AuthenticateRoomExactly : Claims.AuthenticateRoomExactly (λ room. leb authenticate_room room)
AuthenticateRoomExactly room = (leb-true authenticate_room room, λ enough. le-leb authenticate_room room enough)

pub RoomNeededExactly : Claims.RoomNeededExactly room_needed
RoomNeededExactly o room a = (needed o room a).1

-- ---- finishing
gives_length : (x : Outcome (List ℕ)) (n : ℕ) → length_of x ≡ Gives n → (body : List ℕ) × (x ≡ Gives body) × (n ≡ length body)
gives_length (R m) n e = let z : ◌≡◌ {A = ℕ} 0 1 = cc in absurd (omega arith)
gives_length (Word s) n e = let z : ◌≡◌ {A = ℕ} 0 1 = cc in absurd (omega arith)
gives_length (Gives body) n e = (body, refl, cc)

pub BodyWithinRoom : Claims.BodyWithinRoom end_of
BodyWithinRoom i room n a e =
    let given = gives_length (finish_of i) n e in
    let told = told_body given.0 (way i) given.1 in
    let within = body_within i.order.kind i.order i.certificate i.signature told.0.certificate told.0.signature in
    omega (arith, within, ap length told.1, given.2, (needed i.order room a).1)

ended : (i : Finishing) (x : Outcome (List ℕ)) → finish_of i ≡ x → end_of i ≡ record { answer = length_of x; reply = reply_of x i.reply }
ended i x e = ap (λ (y : Outcome (List ℕ)). record { answer = length_of y; reply = reply_of y i.reply }) e

-- a body at the front of the buffer, by its spelling and its length
laid_out : (body spelled old : List ℕ) (n : ℕ) → body ≡ spelled → n ≡ length body → n ≤ length old
    → ◌≡◌ {A = Ended} (record { answer = Gives (length body); reply = laid body old }) (record { answer = Gives n; reply = spelled ++ drop n old })
laid_out body spelled old n is_spelled is_n fits =
    let reply : laid body old ≡ spelled ++ drop n old =
    laid_fits body old (omega arith) ∙ ap (λ (k : ℕ). body ++ drop k old) (sym is_n) ∙ ap (λ (s : List ℕ). s ++ drop n old) is_spelled in
    let long : length body ≡ n = sym is_n in
    λ d. record { answer = Gives (long d); reply = reply d }

pub FinishesExactly : Claims.FinishesExactly end_of
FinishesExactly =
    record {
      r7 = λ i none. ended i (R 7) (comes_to_r7 i (not_of_layout i.order none));
      r4 = λ i a other. ended i (R 4) (comes_to_r4 i (needed i.order a.0 a.1).0 other);
      r2 =
          λ i room a its short.
          let q = needed i.order room a in
          ended i (R 2) (comes_to_r2 i q.0 its (omega (arith, q.1)));
      signer_failed =
          λ i room a its fits failed.
          let q = needed i.order room a in
          ended i (SW 0x6f00) (comes_to_6f00 i q.0 its (omega (arith, q.1)) failed);
      r3 =
          λ i room a its fits done long.
          let q = needed i.order room a in
          ended i (R 3) (comes_to_r3 i q.0 its (omega (arith, q.1)) done long);
      register_body = register_body_lem;
      authenticate_body = authenticate_body_lem;
    }
  where
    register_body_lem : (i : Finishing) (h : ℕ) → IsWhole i.order → RegisterShaped h i.order
        → length i.certificate ≡ certificate_length i.order
        → 139 + h + length i.certificate ≤ length i.reply → i.signed ≡ true → length i.signature ≤ 72
        → end_of i
        ≡ record {
          answer = Gives (67 + h + length i.certificate + length i.signature);
          reply =
              0x05 ∷ 0x04 ∷ []
              ++ bytes_at (66 + h) 64 i.order.bytes
              ++ h ∷ []
              ++ bytes_at 65 h i.order.bytes
              ++ i.certificate
              ++ i.signature
              ++ drop (67 + h + length i.certificate + length i.signature) i.reply;
        }
    register_body_lem i h whole s its room done short =
        let q = needed i.order _ (register h s) in
        let fits : room_needed i.order ≤ length i.reply = omega (arith, q.1, its) in
        let b : List ℕ = i.order.bytes in
        let body : List ℕ = register_body (register_fields_of (130 + h) b) i.certificate i.signature in
        let its_body : body_of i.order.kind i.order i.certificate i.signature ≡ body =
        ap (λ (k : Kind). body_of k i.order i.certificate i.signature) s.kind
        ∙ ap (λ (n : ℕ). register_body (register_fields_of n b) i.certificate i.signature) s.counts in
        let spelled = register_spelled h b i.certificate i.signature whole s.handle in
        let long : 67 + h + length i.certificate + length i.signature ≡ length body =
        sym (ap length spelled ∙ simp length-append (omega (arith, length_part (66 + h) 64 b (omega (arith, s.handle)), length_part 65 h b (omega (arith, s.handle))))) in
        ended i (Gives body) (comes_to_body i q.0 its fits done short ∙ ap Gives its_body)
        ∙ laid_out body _ i.reply _ spelled long (omega arith)

    authenticate_body_lem : (i : Finishing) → IsWhole i.order → AuthenticateShaped i.order → length i.certificate ≡ 0
        → 77 ≤ length i.reply → i.signed ≡ true → length i.signature ≤ 72
        → end_of i
        ≡ record {
          answer = Gives (5 + length i.signature);
          reply = bytes_at 32 5 i.order.bytes ++ i.signature ++ drop (5 + length i.signature) i.reply;
        }
    authenticate_body_lem i whole s none room done short =
        let q = needed i.order 77 (authenticate s) in
        let fits : room_needed i.order ≤ length i.reply = omega (arith, q.1) in
        let its : length i.certificate ≡ certificate_length i.order = none ∙ sym s.no_certificate in
        let b : List ℕ = i.order.bytes in
        let body : List ℕ = authenticate_body (authenticate_fields_of b) i.signature in
        let its_body : body_of i.order.kind i.order i.certificate i.signature ≡ body =
        ap (λ (k : Kind). body_of k i.order i.certificate i.signature) s.kind in
        let spelled = authenticate_spelled b i.signature whole in
        let long : 5 + length i.signature ≡ length body =
        sym (ap length spelled ∙ simp length-append (omega (arith, length_part 32 5 b (omega arith)))) in
        ended i (Gives body) (comes_to_body i q.0 its fits done short ∙ ap Gives its_body)
        ∙ laid_out body _ i.reply _ spelled long (omega arith)

pub BlankRefused : Claims.BlankRefused blank_order end_of
BlankRefused = (
  of_no_layout blank_order (Made.blank_refused).0,
  λ i e. ended i (R 7) ((Made.blank_refused).1 i e),
)

-- a made order, with the certificate and the room that it was made for, passes the first three checks
register_ready : (i : Finishing) (f : RegisterFields) → is_register_fit f ≡ true → i.order ≡ register_order_of f (length i.certificate)
    → register_room (length f.handle) (length i.certificate) ≤ length i.reply
    → (is_of_layout i.order ≡ true) × (length i.certificate ≡ certificate_length i.order) × (room_needed i.order ≤ length i.reply)
register_ready i f fit e room =
    let c : ℕ = length i.certificate in
    let asked = ap room_needed e ∙ (Made.room_of_made).0 f c fit in (
      ap is_of_layout e ∙ (Made.made_of_layout).0 f c fit,
      sym (ap certificate_length (e ∙ register_order_fit f c (register_lengths f fit))),
      rw asked room,
    )

authenticate_ready : (i : Finishing) (f : AuthenticateFields) → is_authenticate_fit f ≡ true → i.order ≡ authenticate_order_of f
    → length i.certificate ≡ 0 → authenticate_room ≤ length i.reply
    → (is_of_layout i.order ≡ true) × (length i.certificate ≡ certificate_length i.order) × (room_needed i.order ≤ length i.reply)
authenticate_ready i f fit e none room =
    let asked = ap room_needed e ∙ (Made.room_of_made).1 f fit in (
      ap is_of_layout e ∙ (Made.made_of_layout).1 f fit,
      none ∙ sym (ap certificate_length (e ∙ authenticate_order_fit f (authenticate_lengths f fit))),
      rw asked room,
    )

pub MadeOrderKept : Claims.MadeOrderKept finish_of
MadeOrderKept = (
  λ i f fit e room n refused. let r = register_ready i f fit e room in told_r3 n (way i) refused r.0 r.1 r.2,
  λ i f fit e none room n refused. let r = authenticate_ready i f fit e none room in told_r3 n (way i) refused r.0 r.1 r.2,
)

-- finished, an order gives the body of the fields that it was made of
register_back : (i : Finishing) (f : RegisterFields) → is_register_fit f ≡ true → i.order ≡ register_order_of f (length i.certificate)
    → 139 + length f.handle + length i.certificate ≤ length i.reply → i.signed ≡ true → length i.signature ≤ 72
    → finish_of i ≡ Gives (register_body f i.certificate i.signature)
register_back i f fit e room done short =
    let l = register_lengths f fit in
    let r = register_ready i f fit e room in
    comes_to_body i r.0 r.1 r.2 done short
    ∙ ap (λ (o : Order). Gives (body_of o.kind o i.certificate i.signature)) e
    ∙ ap (λ (o : Order). Gives (body_of o.kind o i.certificate i.signature)) (register_order_fit f (length i.certificate) l)
    ∙ ap (λ (g : RegisterFields). Gives (register_body g i.certificate i.signature)) (kept_of f l)
  where
    kept_of : (f : RegisterFields) → RegisterLengths f → register_fields_of (130 + length f.handle) (block (register_to_sign f)) ≡ f
    kept_of f l =
        ap (λ (o : Order). register_fields_of (to_sign o) o.bytes) (sym (register_order_fit f 0 l)) ∙ (Made.fields_kept).0 f 0 (register_fit f l)

authenticate_back : (i : Finishing) (f : AuthenticateFields) → is_authenticate_fit f ≡ true → i.order ≡ authenticate_order_of f → length i.certificate ≡ 0
    → 77 ≤ length i.reply → i.signed ≡ true → length i.signature ≤ 72 → finish_of i ≡ Gives (authenticate_body f i.signature)
authenticate_back i f fit e none room done short =
    let l = authenticate_lengths f fit in
    let r = authenticate_ready i f fit e none room in
    comes_to_body i r.0 r.1 r.2 done short
    ∙ ap (λ (o : Order). Gives (body_of o.kind o i.certificate i.signature)) (e ∙ authenticate_order_fit f l)
    ∙ ap (λ (g : AuthenticateFields). Gives (authenticate_body g i.signature)) (kept_of f l)
  where
    kept_of : (f : AuthenticateFields) → AuthenticateLengths f → authenticate_fields_of (block (authenticate_to_sign f)) ≡ f
    kept_of f l =
        ap (λ (o : Order). authenticate_fields_of o.bytes) (sym (authenticate_order_fit f l)) ∙ (Made.fields_kept).1 f (authenticate_fit f l)

-- ---- FIDO's messages
pub SignsFido : Claims.SignsFido register_order_of authenticate_order_for
SignsFido = record { registration = registration; authentication = authentication }
  where
    registration : (f : RegisterFields) (c : ℕ) → RegisterLengths f
        → (key : List ℕ) × IsKey f.x f.y key × IsMessage (registration_signed f.application f.challenge f.handle key) (signed_bytes (register_order_of f c))
    registration f c l = (
      public_key f.x f.y,
      key_is f.x f.y l.x l.y,
      subst (IsMessage _)
          (sym (ap signed_bytes (register_order_fit f c l) ∙ block_front (register_to_sign f) _ (register_to_sign_length f l) (omega (arith, l.handle)))) (registration_signed_lem f l),
    )

    authentication : (p : AuthenticateParts) → PartsLengths p → p.counter < 0x100000000
        → (counter : List ℕ) × IsCounter p.counter counter
        × IsMessage (authentication_signed p.application (presence_bit p.present) counter p.challenge) (signed_bytes (authenticate_order_for p))
    authentication p l small =
        let f = fields_for p in
        let ok = lengths_of p l in
        let m : IsMessage (authentication_signed p.application (presence_byte p.present) (bytes4 p.counter) p.challenge) (signed_bytes (authenticate_order_of f)) =
        subst (IsMessage _) (sym (ap signed_bytes (authenticate_order_fit f ok) ∙ block_front (authenticate_to_sign f) _ (authenticate_to_sign_length f ok) (omega arith))) (authentication_signed_lem f ok) in (
          bytes4 p.counter,
          counter_is p.counter small,
          subst (λ (n : ℕ). IsMessage (authentication_signed p.application n (bytes4 p.counter) p.challenge) (signed_bytes (authenticate_order_of f))) (presence_same p.present) m,
        )

pub RegisterRoundTrip : Claims.RegisterRoundTrip finish_of
RegisterRoundTrip i application challenge handle x y key k m room done short =
    let f : RegisterFields = record { application = application; challenge = challenge; handle = handle; x = x; y = y } in
    let same : key ≡ public_key x y = is_key x y key k in
    let w = m.message.within in
    let v = k.message.within in
    let l : RegisterLengths f =
    record {
      application = omega (arith, w.2.0, w.2.1);
      challenge = omega (arith, w.2.2.0, w.2.2.1);
      handle = w.2.2.2.1;
      x = omega (arith, v.2.0, v.2.1);
      y = omega (arith, v.2.2.0, v.2.2.1);
    } in
    let held = subst (λ (s : List ℕ). HoldsMessage Register (length i.certificate) (registration_signed application challenge handle s) i.order) same m in (
      register_body f i.certificate i.signature,
      register_back i f (register_fit f l) (registered_order f i.order (length i.certificate) l held) room done short,
      subst (λ (s : List ℕ). IsMessage (registration_response s handle i.certificate i.signature) (register_body f i.certificate i.signature)) (sym same)
          (registration_response_lem f i.certificate i.signature l short),
    )

pub AuthenticateRoundTrip : Claims.AuthenticateRoundTrip finish_of
AuthenticateRoundTrip i application present counter challenge m none room done short =
    let f : AuthenticateFields = record { application = application; presence = presence_bit present; counter = counter; challenge = challenge } in
    let w = m.message.within in
    let l : AuthenticateLengths f =
    record {
      application = omega (arith, w.0, w.1);
      presence = bit_small present;
      counter = omega (arith, w.2.2.0, w.2.2.1);
      challenge = omega (arith, w.2.2.2.0, w.2.2.2.1);
    } in (
      authenticate_body f i.signature,
      authenticate_back i f (authenticate_fit f l) (signed_order f i.order l m) none room done short,
      authentication_response_lem f i.signature l short,
    )

-- ---- the contracts: a function that gives what a definition gives, input by input, is that definition
blank_zeros : Claims.BlankExactly (order_with (head_of blank_order) (replicate 385 0x00))
unfolding blank_order
blank_zeros = record { kind = refl; counts = refl; certificate = refl; zeros = refl }

pub ContractsAsClaimed : Claims.ContractsAsClaimed
ContractsAsClaimed =
    record {
      kind_number = λ g is. subst Claims.KindNumbers (λ d k. sym (is k) d) KindNumbers;
      blank = λ r is. subst (λ (h : Head). Claims.BlankExactly (order_with h (replicate 385 0x00))) (sym is) blank_zeros;
      register_order = λ g is. subst Claims.MakesRegister (λ d f c. sym (is f c) d) MakesRegister;
      authenticate_order = λ g is. subst Claims.MakesAuthenticate (λ d p. sym (is p) d) MakesAuthenticate;
      has_layout = λ g is. subst Claims.LayoutExactly (λ d o. sym (is (head_of o) o.bytes) d) LayoutExactly;
      has_register_room = λ g is. subst Claims.RegisterRoomExactly (λ d room h c. sym (is room h c) d) RegisterRoomExactly;
      has_authenticate_room = λ g is. subst Claims.AuthenticateRoomExactly (λ d room. sym (is room) d) AuthenticateRoomExactly;
      finish = λ g is. subst Claims.FinishesExactly (λ d i. record { answer = sym (is i).says d; reply = sym (is i).leaves d }) FinishesExactly;
    }
