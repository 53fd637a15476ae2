-- Every row of the table is what the definition says, and what the definition says is a row; and the few ways that the claims on
-- orders, counter and reply tell apart.
use Prim.Native.Nat.{ℕ, ◌+◌, ◌-◌, ◌<◌, ◌≤◌}
use mathlib.Core.Path.{◌≡◌, refl, ap, ◌∙◌}
use mathlib.Core.Bool.{Bool, true, false, not}
use native.Mathlib.Omega.{arith}
use native.Mathlib.Decide.{ℕ_discrete}
use borrow.Author.Tests.{lt-ltb, le-ltb, ltb-true, ltb-false, eqb-true, eqb-false, ne_eqb, not-true, not-false}
use lib.Dec.{ltb, eqb}
use lib.ListN.{length}
use Rattle.outcome.specs.Notation.{when◌then◌else◌}
use Rattle.outcome.specs.Outcome.{StatusWord, Outcome, R, Word, Gives, plain_word}
use Rattle.apdu_stated.specs.Answers.{Says}
use Rattle.command_stated.specs.Command.{Command, Register, Authenticate, Version, GetResponse, command_of}
use Rattle.u2f_up_stated.specs.Moments.{moved_to, touch_closed, prompt_opened}
use Rattle.u2f_up_stated.specs.History.{Checking}
use Rattle.u2f_up_stated.specs.Terms.{BadWindow, BadSide, BadMoment, NotRefused, HasTouch}
use Rattle.u2f_up_stated.specs.declared.Presence.{Presence}
use Rattle.u2f_up_stated.proofs.Laws.{bad_window, bad_side, bad_moment, has_touch, settle_r6, settle_r8, settle_r1, settle_moves, checked_own, checked_other, checked_dead}
use Rattle.response_stated.specs.Words.{rest}
use Rattle.response_stated.specs.declared.Sent.{Sent}
use Rattle.response_stated.specs.Parts.{part_length, next_part_of}
use Rattle.ctap1_stated.specs.Words.{Inputs, DecisionResult, Allowed, Attestation, Counter, is_present}
use Rattle.ctap1_stated.specs.Path.{PathEnd, Internal, Orders, DecisionPath, Touch, frame_limit, sent_path, fetch_path, register_ordered, authenticate_ordered, enrolment_order, register_ending, counted_ending, login_path, register_path, version_path, authenticate_path, command_path, allowed_path, path_of, role_of}
use Rattle.ctap1_stated.specs.Decision.{refusal_result, word_result, status_result, body_result, part_result, order_result, ended, along, decision_of}
use Rattle.ctap1_stated.specs.Terms.{Comes, Fetching, OwnTouch, OthersTouch, room_of_register, Registering, Signing}
use Rattle.ctap1_stated.specs.Table
use Rattle.ctap1_stated.specs.Table.{Answers}
use Rattle.ctap1_stated.specs.declared.Allowed.TheVariants as Allowed'
use Rattle.ctap1_stated.specs.declared.Attestation.TheVariants as Attestation'
use Rattle.std.specs.Prelude.{Some, None}
use Rattle.ctap1_stated.proofs.Commands.{never_refused, p1_08}

module _ (a : Inputs) where
  comes : (c : Command) → Comes a c → path_of a ≡ command_path a (Gives c)
  unfolding path_of allowed_path
  comes c (y, e) = rw (y, e)

  split : {A : Type 0} (W : A → Type 0) (b : Bool) (r s : A) → (b ≡ true → W r) → (b ≡ false → W s) → W (when b then r else s)
  split W true r s f g = f refl
  split W false r s f g = g refl

  with_p1 : (p1 k : ℕ) (said : Says) → p1 ≡ k → Comes a (Authenticate p1 said) → Comes a (Authenticate k said)
  with_p1 p1 k said z c = rw z at c

module _ (p : Presence) (t : ℕ) (a : Inputs) where
  settled : NotRefused p a.side t → decision_of p t a ≡ along (path_of a) p (moved_to p t) a.side t
  unfolding decision_of
  settled ok = rw (settle_moves p a.side t ok)

  pub came : (c : Command) → NotRefused p a.side t → Comes a c → decision_of p t a ≡ along (command_path a (Gives c)) p (moved_to p t) a.side t
  came c ok e = settled ok ∙ ap (λ (x : DecisionPath). along x p (moved_to p t) a.side t) (comes a c e)

  is_r6_lem : BadWindow p.w → decision_of p t a ≡ refusal_result 6 p
  unfolding decision_of
  is_r6_lem b = rw (settle_r6 p a.side t b)

  is_r8_lem : (BadWindow p.w → ⊥) → BadSide a.side p.asker → decision_of p t a ≡ refusal_result 8 p
  unfolding decision_of
  is_r8_lem g b = rw (settle_r8 p a.side t g b)

  is_r1_lem : (BadWindow p.w → ⊥) → (BadSide a.side p.asker → ⊥) → BadMoment p.last t → decision_of p t a ≡ refusal_result 1 p
  unfolding decision_of
  is_r1_lem g h b = rw (settle_r1 p a.side t g h b)

  -- ---- C0: something remains, and so many bytes go out
  counts : 0 < a.remainder.count → eqb a.remainder.count 0 ≡ false
  counts some = ne_eqb a.remainder.count 0 (λ e. omega arith)

  abbrev taken : ℕ
  taken = part_length (frame_limit a.frame) a.remainder.count

  -- ---- each row is what the definition says
  pub sound : (r : DecisionResult) → Answers p t a r → decision_of p t a ≡ r
  unfolding path_of allowed_path command_path version_path register_path login_path register_ending counted_ending enrolment_order fetch_path next_part_of
  sound _ (Table.r6 b) = is_r6_lem b
  sound _ (Table.r8 g b) = is_r8_lem g b
  sound _ (Table.r1 g h b) = is_r1_lem g h b
  sound _ (Table.failed ok y) = settled ok ∙ rw y
  sound _ (Table.forbidden ok y) = settled ok ∙ rw y
  sound _ (Table.frame ok y n e) = settled ok ∙ rw (y, e)
  sound _ (Table.version_short ok c h) = came _ ok c ∙ rw (lt-ltb a.room 6 h)
  sound _ (Table.version ok c h) = came _ ok c ∙ rw (le-ltb a.room 6 h)
  sound _ (Table.register_short said ok c h) = came _ ok c ∙ rw (lt-ltb a.room (room_of_register a) h)
  sound _ (Table.register_6985 said (ok, c, h) n) = came _ ok c ∙ rw (le-ltb a.room (room_of_register a) h, checked_dead p a.side t n)
  sound _ (Table.register_other said (ok, c, h) o) = came _ ok c ∙ rw (le-ltb a.room (room_of_register a) h, checked_other p a.side t o.0 o.1)
  sound _ (Table.not_stored said (ok, c, h) l s) = came _ ok c ∙ rw (le-ltb a.room (room_of_register a) h, checked_own p a.side t l.0 l.1, s)
  sound _ (Table.long said (ok, c, h) l s k) = came _ ok c ∙ rw (le-ltb a.room (room_of_register a) h, checked_own p a.side t l.0 l.1, s, lt-ltb 255 (length a.new_handle) k)
  sound _ (Table.missing said (ok, c, h) l s k m) = came _ ok c ∙ rw (le-ltb a.room (room_of_register a) h, checked_own p a.side t l.0 l.1, s, le-ltb 255 (length a.new_handle) k, m)
  sound _ (Table.no_attestation said (ok, c, h) l s k m) = came _ ok c ∙ rw (le-ltb a.room (room_of_register a) h, checked_own p a.side t l.0 l.1, s, le-ltb 255 (length a.new_handle) k, m)
  sound _ (Table.enrols said (ok, c, h) l s k m) = came _ ok c ∙ rw (le-ltb a.room (room_of_register a) h, checked_own p a.side t l.0 l.1, s, le-ltb 255 (length a.new_handle) k, m)
  sound _ (Table.bad_handle p1 said ok c g) = came _ ok c ∙ rw g
  sound _ (Table.check_only said ok c g) = came _ ok c ∙ rw g
  sound _ (Table.sign_short p1 said ok c g n h) = came _ ok c ∙ rw (g, ne_eqb p1 0x07 n, lt-ltb a.room 77 h)
  sound _ (Table.sign_6985 said (ok, c, g, h) n) = came _ ok c ∙ rw (g, le-ltb a.room 77 h, checked_dead p a.side t n)
  sound _ (Table.sign_other said (ok, c, g, h) o) = came _ ok c ∙ rw (g, le-ltb a.room 77 h, checked_other p a.side t o.0 o.1)
  sound _ (Table.no_counter_03 said (ok, c, g, h) l k) = came _ ok c ∙ rw (g, le-ltb a.room 77 h, checked_own p a.side t l.0 l.1, k)
  sound _ (Table.signs_03 said n (ok, c, g, h) l k) = came _ ok c ∙ rw (g, le-ltb a.room 77 h, checked_own p a.side t l.0 l.1, k)
  sound _ (Table.no_counter_08 said (ok, c, g, h) k) = came _ ok c ∙ rw (g, le-ltb a.room 77 h, k)
  sound _ (Table.signs_08 said n (ok, c, g, h) k) = came _ ok c ∙ rw (g, le-ltb a.room 77 h, k)
  sound _ (Table.fetch_nothing ok c e) = came _ ok c ∙ rw e
  sound _ (Table.fetch_short_body (ok, c, some) h) = came _ ok c ∙ rw (counts some, lt-ltb a.room (a.remainder.place + a.remainder.count) h)
  sound _ (Table.fetch_short_part (ok, c, some) g h) = came _ ok c ∙ rw (counts some, le-ltb a.room (a.remainder.place + a.remainder.count) g, lt-ltb a.part_room (taken + 2) h)
  sound _ (Table.fetch n e (ok, c, some) g h) = came _ ok c ∙ rw (counts some, le-ltb a.room (a.remainder.place + a.remainder.count) g, ← e, le-ltb a.part_room (n + 2) h)

  -- ---- and what the definition says is a row
  module _ (ok : NotRefused p a.side t) where
    abbrev At : DecisionPath → Type 0
    At x = Answers p t a (along x p (moved_to p t) a.side t)

    touched : (e : PathEnd) → ((HasTouch p t → ⊥) → Answers p t a (status_result 0x6985 (prompt_opened (moved_to p t) a.side t)))
        → (OthersTouch p t a → Answers p t a (status_result 0x6985 (moved_to p t))) → (OwnTouch p t a → Answers p t a (ended e (touch_closed (moved_to p t)))) → At (Touch e)
    touched e f o g = by (has_touch p t) (ℕ_discrete p.asker a.side)
      where
        by : Dec (HasTouch p t) → Dec (p.asker ≡ a.side) → At (Touch e)
        by (yes h) (yes m) = rw (checked_own p a.side t h m) (g (h, m))
        by (yes h) (no m) = rw (checked_other p a.side t h m) (o (h, m))
        by (no h) m = rw (checked_dead p a.side t h) (f h)

    register_at : (said : Says) → Comes a (Register said) → At (command_path a (Gives (Register said)))
    unfolding command_path version_path register_path register_ending enrolment_order
    register_at said c =
        split a At (ltb a.room (room_of_register a)) _ _ (λ h. Table.register_short said ok c (ltb-true a.room (room_of_register a) h))
        (λ h. let in_room : Registering p t a said = (ok, c, ltb-false a.room (room_of_register a) h) in
        let signed = when not (is_present a.hardware.attestation) then Internal else Orders (register_ordered a said) false in
        touched (register_ending a said) (λ n. Table.register_6985 said in_room n) (λ o. Table.register_other said in_room o)
        (λ l. split a After (not a.hardware.stored) Internal (when ltb 255 (length a.new_handle) then Internal else signed) (λ n. Table.not_stored said in_room l (not-true a.hardware.stored n))
        (λ n. split a After (ltb 255 (length a.new_handle)) Internal signed (λ k. Table.long said in_room l (not-false a.hardware.stored n) (ltb-true 255 (length a.new_handle) k))
        (λ k. by in_room l (not-false a.hardware.stored n) (ltb-false 255 (length a.new_handle) k) a.hardware.attestation refl))))
      where
        After : PathEnd → Type 0
        After e = Answers p t a (ended e (touch_closed (moved_to p t)))

        by : Registering p t a said → OwnTouch p t a → a.hardware.stored ≡ true → length a.new_handle ≤ 255 → (m : Attestation) → a.hardware.attestation ≡ m
            → After (when not (is_present m) then Internal else Orders (register_ordered a said) false)
        by x l s k Attestation'.Present m = Table.enrols said x l s k m
        by x l s k Attestation'.Missing m = Table.missing said x l s k m
        by x l s k Attestation'.Failed m = Table.no_attestation said x l s k m

    counts_03 : (said : Says) → Signing p t a 0x03 said → OwnTouch p t a → (c : Counter) → a.hardware.counter ≡ c
        → Answers p t a (ended (counted_ending a.frame said true c) (touch_closed (moved_to p t)))
    unfolding counted_ending
    counts_03 said x l None k = Table.no_counter_03 said x l k
    counts_03 said x l (Some n) k = Table.signs_03 said n x l k

    counts_08 : (said : Says) → Signing p t a 0x08 said → (c : Counter) → a.hardware.counter ≡ c → Answers p t a (ended (counted_ending a.frame said false c) (moved_to p t))
    unfolding counted_ending
    counts_08 said x None k = Table.no_counter_08 said x k
    counts_08 said x (Some n) k = Table.signs_08 said n x k

    authenticate_at : (p1 : ℕ) (said : Says) → Comes a (Authenticate p1 said) → At (authenticate_path a p1 said)
    unfolding login_path
    authenticate_at p1 said c =
        split a At (not a.hardware.good) _ _ (λ n. Table.bad_handle p1 said ok c (not-true a.hardware.good n))
        (λ n. let g = not-false a.hardware.good n in
        split a At (eqb p1 0x07) _ _ (λ z. Table.check_only said ok (with_p1 a p1 0x07 said (eqb-true p1 0x07 z) c) g)
        (λ n7. split a At (ltb a.room 77) _ _ (λ h. Table.sign_short p1 said ok c g (eqb-false p1 0x07 n7) (ltb-true a.room 77 h))
        (λ h. split a At (eqb p1 0x03) _ _
        (λ z. let x : Signing p t a 0x03 said = (ok, with_p1 a p1 0x03 said (eqb-true p1 0x03 z) c, g, ltb-false a.room 77 h) in
        touched (counted_ending a.frame said true a.hardware.counter) (λ u. Table.sign_6985 said x u) (λ o. Table.sign_other said x o) (λ l. counts_03 said x l a.hardware.counter refl))
        (λ n3. counts_08 said (ok, with_p1 a p1 0x08 said (p1_08 a.frame p1 said c.1 n7 n3) c, g, ltb-false a.room 77 h) a.hardware.counter refl))))

    fetch_at : Comes a GetResponse → At (fetch_path a.room a.remainder (frame_limit a.frame) a.part_room)
    unfolding fetch_path next_part_of
    fetch_at c =
        let all = a.remainder.place + a.remainder.count in
        split a At (eqb a.remainder.count 0) _ _ (λ z. Table.fetch_nothing ok c (eqb-true a.remainder.count 0 z))
        (λ z. let n = eqb-false a.remainder.count 0 z in
        let x : Fetching p t a = (ok, c, omega arith) in
        split a (λ (o : Outcome Sent). At (sent_path o)) (ltb a.room all) _ _ (λ h. Table.fetch_short_body x (ltb-true a.room all h))
        (λ g. split a (λ (o : Outcome Sent). At (sent_path o)) (ltb a.part_room (taken + 2)) _ _ (λ h. Table.fetch_short_part x (ltb-false a.room all g) (ltb-true a.part_room (taken + 2) h))
        (λ h. Table.fetch taken refl x (ltb-false a.room all g) (ltb-false a.part_room (taken + 2) h))))

    command_at : (o : Outcome Command) → a.hardware.allowed ≡ Allowed'.Yes → command_of a.frame ≡ o → At (command_path a o)
    unfolding command_path version_path register_path
    command_at (R n) y e = absurd (never_refused a.frame n e)
    command_at (Word s) y e = Table.frame ok y s e
    command_at (Gives Version) y e = split a At (ltb a.room 6) _ _ (λ h. Table.version_short ok (y, e) (ltb-true a.room 6 h)) (λ h. Table.version ok (y, e) (ltb-false a.room 6 h))
    command_at (Gives GetResponse) y e = fetch_at (y, e)
    command_at (Gives (Register said)) y e = register_at said (y, e)
    command_at (Gives (Authenticate p1 said)) y e = authenticate_at p1 said (y, e)

    allowed_at : (w : Allowed) → a.hardware.allowed ≡ w → At (allowed_path w a)
    unfolding allowed_path
    allowed_at Allowed'.Failed y = Table.failed ok y
    allowed_at Allowed'.No y = Table.forbidden ok y
    allowed_at Allowed'.Yes y = command_at (command_of a.frame) y refl

  pub row : Answers p t a (decision_of p t a)
  unfolding decision_of path_of
  row = at (bad_window p.w) (bad_side a.side p.asker) (bad_moment p.last t)
    where
      at : Dec (BadWindow p.w) → Dec (BadSide a.side p.asker) → Dec (BadMoment p.last t) → Answers p t a (decision_of p t a)
      at (yes b) s m = rw (settle_r6 p a.side t b) (Table.r6 b)
      at (no w) (yes b) m = rw (settle_r8 p a.side t w b) (Table.r8 w b)
      at (no w) (no s) (yes b) = rw (settle_r1 p a.side t w s b) (Table.r1 w s b)
      at (no w) (no s) (no m) = rw (settle_moves p a.side t (w, s, m)) (allowed_at (w, s, m) a.hardware.allowed refl)

  -- ---- the ways that the other claims tell apart
  -- a status word: one of the decision's own, which has no pair, or the frame's
  pub data Stated : StatusWord → Type 0 where
    its_own : (n : ℕ) → (n ≡ 0x6700 → ⊥) → Stated (plain_word n)
    framed : {s : StatusWord} → NotRefused p a.side t → a.hardware.allowed ≡ Allowed'.Yes → command_of a.frame ≡ Word s → Stated s

  pub data Way : DecisionResult → Type 0 where
    refused : (n : ℕ) → Way (refusal_result n p)
    stated : (s : StatusWord) (q : Presence) → Stated s → Way (word_result s q)
    versioned : Comes a Version → 6 ≤ a.room → Way (body_result 6 (moved_to p t))
    fetched : Fetching p t a → (sent : Sent) → Way (part_result sent (moved_to p t))
    enrolled : (said : Says) → Registering p t a said → OwnTouch p t a → length a.new_handle ≤ 255 → Way (order_result (register_ordered a said) (touch_closed (moved_to p t)) false)
    signed_03 : (said : Says) (n : ℕ) → Signing p t a 0x03 said → OwnTouch p t a → a.hardware.counter ≡ Some n
        → Way (order_result (authenticate_ordered a said true n) (touch_closed (moved_to p t)) true)
    signed_08 : (said : Says) (n : ℕ) → Signing p t a 0x08 said → a.hardware.counter ≡ Some n
        → Way (order_result (authenticate_ordered a said false n) (moved_to p t) true)

  pub way : Way (decision_of p t a)
  unfolding enrolment_order
  way = by (decision_of p t a) row
    where
      by : (r : DecisionResult) → Answers p t a r → Way r
      by _ (Table.r6 b) = refused 6
      by _ (Table.r8 g b) = refused 8
      by _ (Table.r1 g h b) = refused 1
      by _ (Table.failed ok y) = stated _ _ (its_own 0x6f00 (λ e. omega arith))
      by _ (Table.forbidden ok y) = stated _ _ (its_own 0x6986 (λ e. omega arith))
      by _ (Table.frame ok y s e) = stated s _ (framed ok y e)
      by _ (Table.version_short ok c h) = refused 2
      by _ (Table.version ok c h) = versioned c h
      by _ (Table.register_short said ok c h) = refused 2
      by _ (Table.register_6985 said x n) = stated _ _ (its_own 0x6985 (λ e. omega arith))
      by _ (Table.register_other said x o) = stated _ _ (its_own 0x6985 (λ e. omega arith))
      by _ (Table.not_stored said x l s) = stated _ _ (its_own 0x6f00 (λ e. omega arith))
      by _ (Table.long said x l s k) = stated _ _ (its_own 0x6f00 (λ e. omega arith))
      by _ (Table.missing said x l s k m) = stated _ _ (its_own 0x6f00 (λ e. omega arith))
      by _ (Table.no_attestation said x l s k m) = stated _ _ (its_own 0x6f00 (λ e. omega arith))
      by _ (Table.enrols said x l s k m) = enrolled said x l k
      by _ (Table.bad_handle p1 said ok c g) = stated _ _ (its_own 0x6a80 (λ e. omega arith))
      by _ (Table.check_only said ok c g) = stated _ _ (its_own 0x6985 (λ e. omega arith))
      by _ (Table.sign_short p1 said ok c g n h) = refused 2
      by _ (Table.sign_6985 said x n) = stated _ _ (its_own 0x6985 (λ e. omega arith))
      by _ (Table.sign_other said x o) = stated _ _ (its_own 0x6985 (λ e. omega arith))
      by _ (Table.no_counter_03 said x l k) = stated _ _ (its_own 0x6a80 (λ e. omega arith))
      by _ (Table.signs_03 said n x l k) = signed_03 said n x l k
      by _ (Table.no_counter_08 said x k) = stated _ _ (its_own 0x6a80 (λ e. omega arith))
      by _ (Table.signs_08 said n x k) = signed_08 said n x k
      by _ (Table.fetch_nothing ok c e) = stated _ _ (its_own 0x6985 (λ e. omega arith))
      by _ (Table.fetch_short_body x h) = refused 2
      by _ (Table.fetch_short_part x g h) = refused 2
      by _ (Table.fetch n e x g h) = fetched x (record { length = n + 2; remainder = rest (a.remainder.place + n) (a.remainder.count - n) })

-- ---- a decision that comes to the touch check has that role
pub registering_checks : (p : Presence) (t : ℕ) (a : Inputs) (said : Says) → Registering p t a said → role_of a ≡ Checking a.side
unfolding command_path register_path
registering_checks p t a said (ok, c, h) = rw (comes a _ c) (rw (le-ltb a.room (room_of_register a) h))

pub signing_checks : (p : Presence) (t : ℕ) (a : Inputs) (said : Says) → Signing p t a 0x03 said → role_of a ≡ Checking a.side
unfolding command_path login_path
signing_checks p t a said (ok, c, g, h) = rw (comes a _ c) (rw (g, le-ltb a.room 77 h))
