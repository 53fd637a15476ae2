-- Each wrong program of specs/Wrong.antt, and the claim that is false of it: a body of the bytes 7 8 9, fetched one byte at a time.
use Prim.Native.Nat.{ℕ, ◌<◌}
use mathlib.Core.Path.{◌≡◌, refl, ap, sym, ◌∙◌}
use mathlib.Core.Bool.{true, false≢true}
use mathlib.Core.Logic.{inr, ⊎_elim}
use mathlib.Core.List.{List, [], ◌∷◌, ◌++◌}
use native.Mathlib.Omega.{arith}
use lib.ListN.{length, replicate, length-replicate}
use Rattle.outcome.specs.Outcome.{Outcome, R, Gives, plain_word}
use Rattle.outcome.proofs.Laws.{gives_same, r_gives, word_gives}
use Rattle.octets.specs.Bytes.{byte, part_of}
use Rattle.apdu_stated.specs.Answers.{Says}
use Rattle.apdu_stated.specs.Reading.{read_of, read_by, say_of, lengths_of, short_of, extended_of, after_data, data_of}
use Rattle.command_stated.specs.Command.{Authenticate, command_of, on_reading, by_instruction, get_response_of, authenticate_of, challenge_of, application_of}
use Rattle.signing_stated.specs.Orders.{certificate_length, block, authenticate_order_of, is_authenticate_layout}
use Rattle.signing_stated.specs.Finishing.{Finishing, finish_of, end_of}
use Rattle.response_stated.specs.declared.Remainder.{Remainder}
use Rattle.response_stated.specs.Words.{rest}
use Rattle.response_stated.specs.declared.Sent.{Sent}
use Rattle.response_stated.specs.Parts.{limit_of, part_length, left_status, next_part_of, response_room_of}
use Rattle.response_stated.specs.Terms.{sending_of, sending, Goes, Tells, some_left, more_left}
use Rattle.response_stated.specs.Fetching.{up}
use Rattle.response_stated.proofs.Laws.{next_exactly}
use Rattle.u2f_up_stated.specs.Moments.{fresh, settle_of}
use Rattle.u2f_up_stated.specs.Terms.{NotRefused}
use Rattle.ctap1_stated.specs.declared.Hardware.{Hardware}
use Rattle.ctap1_stated.specs.declared.HardwareSaid.{HardwareSaid}
use Rattle.ctap1_stated.specs.Words.{Inputs, Body, Ordered}
use Rattle.ctap1_stated.specs.Path.{frame_limit, fetch_path, login_path, counted_ending, command_path, allowed_path, path_of}
use Rattle.ctap1_stated.specs.Decision.{decision_of}
use Rattle.ctap1_stated.specs.Session.{remainder_left, part_left}
use Rattle.ctap1_stated.specs.declared.Allowed.TheVariants as Allowed'
use Rattle.ctap1_stated.specs.declared.Attestation.TheVariants as Attestation'
use Rattle.std.specs.Prelude.{Some, None}
use Rattle.session_stated.specs.Held.{Session}
use Rattle.session_stated.specs.Promises.{ToDecide}
use Rattle.session_stated.specs.Terms.{given, absent, whole, extended, no_shape, authenticate, FrameRoom, RoomWasAsked, FirstPart}
use Rattle.session_stated.specs.Sessions.{Visit, none, also}
use Rattle.session_stated.specs.Claims
use Rattle.session_stated.specs.Wrong

-- C0 with Le 1
abbrev one_byte : List ℕ
one_byte = 0x00 ∷ 0xC0 ∷ 0x00 ∷ 0x00 ∷ 0x01 ∷ []

abbrev said : Says
said = record { header = record { cla = 0x00; ins = 0xC0; p1 = 0x00; p2 = 0x00 }; shape = 2; lc = 0; le = 1; data_at = 4 }

abbrev body : List ℕ
body = 7 ∷ 8 ∷ 9 ∷ []

abbrev lent : Remainder → Inputs
lent r =
    record {
      side = 0;
      frame = one_byte;
      hardware = record { allowed = Allowed'.Yes; stored = true; attestation = Attestation'.Present; good = true; counter = None };
      new_handle = [];
      certificate = [];
      x = [];
      y = [];
      room = 3;
      remainder = r;
      part_room = 4;
    }

abbrev visit : Visit
visit = record { presence = fresh 1000; moment = 0; lent = lent (rest 0 0); buffer = replicate 4 0 }

sent_rest : (m n : ℕ) (q r : Remainder) → ◌≡◌ {A = Outcome Sent} (Gives (sending m q)) (Gives (sending n r)) → q.place ≡ r.place
sent_rest m n q r e = ap (λ (s : Sent). s.remainder.place) (gives_same _ _ e)

-- two of three bytes remain
pub skips : Claims.FetchesNext Wrong.skips frame_limit part_left sending_of → ⊥
unfolding decision_of path_of allowed_path command_path fetch_path settle_of next_part_of frame_limit limit_of part_length command_of on_reading by_instruction get_response_of read_by say_of lengths_of short_of extended_of after_data
skips c =
    let z : ◌≡◌ {A = ℕ} 2 3 = sent_rest 3 3 (rest 2 1) (rest 3 0) (λ d. (c (fresh 1000) 0 (lent (rest 1 2)) body (replicate 4 0) 3 (rest 3 0) refl refl refl d).0) in
    omega arith

pub again : Claims.FetchesNext decision_of frame_limit Wrong.again sending_of → ⊥
unfolding decision_of path_of allowed_path command_path fetch_path settle_of next_part_of frame_limit limit_of part_length left_status command_of on_reading by_instruction get_response_of read_by say_of lengths_of short_of extended_of after_data
again c =
    let z : ◌≡◌ {A = ℕ} 8 7 = λ d. byte (c (fresh 1000) 0 (lent (rest 1 2)) body (replicate 4 0) 3 (rest 2 1) refl refl refl d).1 0 in
    omega arith

-- the first byte goes out by itself, then a C0
pub skips_in_session : Claims.SessionJoins Wrong.skips frame_limit remainder_left part_left sending_of → ⊥
unfolding decision_of path_of allowed_path command_path fetch_path settle_of next_part_of frame_limit limit_of part_length left_status command_of on_reading by_instruction get_response_of read_by say_of lengths_of short_of extended_of after_data
skips_in_session c =
    let z : ◌≡◌ {A = ℕ} 2 3 = ap (length {A = ℕ}) (c.so_far body 3 one_byte (replicate 4 0) (visit ∷ []) (omega arith) (also (said, refl, refl) none)) in
    omega arith

pub again_in_session : Claims.SessionJoins decision_of frame_limit remainder_left Wrong.again sending_of → ⊥
unfolding decision_of path_of allowed_path command_path fetch_path settle_of next_part_of frame_limit limit_of part_length left_status command_of on_reading by_instruction get_response_of read_by say_of lengths_of short_of extended_of after_data
again_in_session c =
    let z : ◌≡◌ {A = ℕ} 7 8 = ap (λ (l : List ℕ). byte l 1) (c.so_far body 3 one_byte (replicate 4 0) (visit ∷ []) (omega arith) (also (said, refl, refl) none)) in
    omega arith

pub takes256 : Claims.SessionLimits Wrong.takes256 → ⊥
unfolding decision_of path_of allowed_path command_path fetch_path settle_of next_part_of frame_limit limit_of part_length command_of on_reading by_instruction get_response_of read_by say_of lengths_of short_of extended_of after_data
takes256 c = omega (arith, c.given (fresh 1000) 0 (lent (rest 1 2)) 4 (rest 3 0) said refl refl (omega arith) (omega arith))

-- 61 01 is told of one byte, and two are said to remain
not_two : {status : ℕ} → Tells 2 status → status ≡ 0x6101 → ⊥
not_two (some_left a b) e = omega arith
not_two (more_left a) e = omega arith

pub forgets : Claims.SessionTells Wrong.forgets part_left → ⊥
unfolding decision_of path_of allowed_path command_path fetch_path settle_of next_part_of frame_limit limit_of part_length left_status command_of on_reading by_instruction get_response_of read_by say_of lengths_of short_of extended_of after_data
forgets c =
    not_two (c (fresh 1000) 0 (lent (rest 1 2)) body (replicate 4 0) 3 (rest 1 2) (8 ∷ []) 0x6101 refl refl refl (record { sw1 = 0x61; sw2 = 0x01; are = refl; is = refl })) refl

-- three bytes, one at a time: three parts, and here two
ok : NotRefused (fresh 1000) 0 0
ok = (λ b. ⊎_elim (λ e. omega (arith, e)) (λ h. omega (arith, h)) b, λ b. ⊎_elim (λ h. omega (arith, h)) (λ h. omega (arith, h)) b, λ b. ⊎_elim (λ h. omega (arith, h)) (λ h. omega (arith, h)) b)

pub takes256_in_session : Claims.SessionParts Wrong.takes256 frame_limit remainder_left part_left sending_of → ⊥
unfolding decision_of path_of allowed_path command_path fetch_path settle_of next_part_of frame_limit limit_of part_length left_status command_of on_reading by_instruction get_response_of read_by say_of lengths_of short_of extended_of after_data
takes256_in_session c =
    let z : ◌≡◌ {A = ℕ} 2 3 =
    c.exactly body 3 1 3 one_byte (replicate 4 0) (sending 3 (rest 1 2)) (visit ∷ visit ∷ []) (omega arith) (omega arith) (up 2 (omega arith) (omega arith)) refl refl
    (also (ok, (refl, refl), refl, omega arith) (also (ok, (refl, refl), refl, omega arith) none)) (omega arith) in
    omega arith

-- three parts, and here the first alone
pub refuses_c0 : Claims.SessionParts Wrong.refuses_c0 frame_limit remainder_left part_left sending_of → ⊥
unfolding next_part_of frame_limit limit_of part_length left_status command_of on_reading by_instruction get_response_of read_by say_of lengths_of short_of extended_of after_data
refuses_c0 c =
    let z : ◌≡◌ {A = ℕ} 1 3 =
    c.exactly body 3 1 3 one_byte (replicate 4 0) (sending 3 (rest 1 2)) (visit ∷ visit ∷ []) (omega arith) (omega arith) (up 2 (omega arith) (omega arith)) refl refl
    (also (ok, (refl, refl), refl, omega arith) (also (ok, (refl, refl), refl, omega arith) none)) (omega arith) in
    omega arith

-- ---- what is lent by name
pub count_first : Claims.RemainderStands Wrong.count_first → ⊥
count_first c = let z : ◌≡◌ {A = ℕ} 2 1 = ap (λ (r : Remainder). r.place) (c 1 2 0) in omega arith

pub limit_of_8_bits : Claims.SessionStands Wrong.limit_of_8_bits → ⊥
limit_of_8_bits c = let z : ◌≡◌ {A = ℕ} 0 256 = ap (λ (s : Session). s.limit) (c 0 0 256) in omega arith

pub good_for_stored : Claims.HardwareStands Wrong.good_for_stored → ⊥
good_for_stored c =
    let h : HardwareSaid = record { allowed = 0; attestation = 0; stored = 1; good = 0; counted = 0; counter = 0 } in
    let i : ToDecide = record { presence = record { w = 0; prompt = 0; touch = 0; last = 0; asker = 0 }; session = record { place = 0; count = 0; limit = 0 }; frame = []; side = 0; moment = 0; hardware = h; new_handle = []; certificate = []; x = []; y = []; reply = []; block = []; part = [] } in
    false≢true (ap (λ (a : Hardware). a.stored) (c i 0 0 1 0 0 0 refl))

-- ---- what a transport goes on with: two bytes remain, under limit 7
abbrev before : Session
before = record { remainder = rest 1 2; limit = 7 }

-- a Version with Le 1
abbrev other : Says
other = record { header = record { cla = 0x00; ins = 0x03; p1 = 0x00; p2 = 0x00 }; shape = 2; lc = 0; le = 1; data_at = 4 }

pub refused_drops : Claims.GoesOnExactly Wrong.refused_drops → ⊥
refused_drops c = let z : ◌≡◌ {A = ℕ} 0 2 = ap (λ (r : Remainder). r.count) (c.kept (plain_word 0x6985) said before refl) in omega arith

pub other_keeps : Claims.GoesOnExactly Wrong.other_keeps → ⊥
other_keeps c = let z : ◌≡◌ {A = ℕ} 2 0 = ap (λ (r : Remainder). r.count) (c.other_ins (plain_word 0x6985) other before (λ e. omega (arith, e))) in omega arith

pub refusal_drops : Claims.GoesOnExactly Wrong.refusal_drops → ⊥
refusal_drops c = let z : ◌≡◌ {A = ℕ} 0 2 = ap (λ (s : Session). s.remainder.count) (c.refused 2 (Gives said) before) in omega arith

pub refusal_takes_limit : Claims.GoesOnExactly Wrong.refusal_takes_limit → ⊥
unfolding limit_of
refusal_takes_limit c = let z : ◌≡◌ {A = ℕ} 1 7 = ap (λ (s : Session). s.limit) (c.refused 2 (Gives said) before) in omega arith

pub limit_kept : Claims.GoesOnExactly Wrong.limit_kept → ⊥
limit_kept c = let z : ◌≡◌ {A = ℕ} 7 1 = c.limit (Gives (Body 6)) other 1 before (λ k e. r_gives k _ (sym e)) (given (omega arith) (omega arith)) in omega arith

-- ---- the room for a response: a Version without Le, and one in an extended shape with Le 1
abbrev plain : List ℕ
plain = 0x00 ∷ 0x03 ∷ 0x00 ∷ 0x00 ∷ []

abbrev plain_said : Says
plain_said = record { header = record { cla = 0x00; ins = 0x03; p1 = 0x00; p2 = 0x00 }; shape = 1; lc = 0; le = 0; data_at = 4 }

abbrev wide : List ℕ
wide = 0x00 ∷ 0x03 ∷ 0x00 ∷ 0x00 ∷ 0x00 ∷ 0x00 ∷ 0x01 ∷ []

abbrev wide_said : Says
wide_said = record { header = record { cla = 0x00; ins = 0x03; p1 = 0x00; p2 = 0x00 }; shape = 8; lc = 0; le = 1; data_at = 4 }

plain_read : read_of plain ≡ Gives plain_said
unfolding read_by say_of lengths_of short_of extended_of after_data
plain_read = refl

wide_read : read_of wide ≡ Gives wide_said
unfolding read_by say_of lengths_of short_of extended_of after_data
wide_read = refl

-- a body of none takes two bytes
pub without_status : Claims.FrameRoomExactly Wrong.without_status → ⊥
unfolding limit_of part_length read_by say_of lengths_of short_of extended_of after_data
without_status c =
    let z : ◌≡◌ {A = ℕ} 0 2 = gives_same _ _ ((c.says plain 0 2).1 (whole plain_said 256 plain_read (absent (omega arith) refl) (omega arith), omega arith)) in
    omega arith

pub without_status_serves : Claims.FrameRoomServes Wrong.without_status frame_limit sending_of → ⊥
unfolding limit_of part_length next_part_of frame_limit read_by say_of lengths_of short_of extended_of after_data
without_status_serves c = c.enough plain plain_said 0 0 0 [] [] plain_read refl (omega arith) (omega arith) (omega arith) 2 refl

-- a body of two bytes in an extended shape takes four
pub extended_by_le : Claims.FrameRoomExactly Wrong.extended_by_le → ⊥
unfolding response_room_of part_length read_by say_of lengths_of short_of extended_of after_data
extended_by_le c =
    let z : ◌≡◌ {A = ℕ} 3 4 = gives_same _ _ ((c.says wide 2 4).1 (extended wide_said wide_read (omega arith), omega arith)) in
    omega arith

-- a body of none takes two bytes, and not 258; in two it goes out
pub limit_alone_said : Claims.FrameRoomExactly Wrong.limit_alone → ⊥
unfolding response_room_of limit_of part_length read_by say_of lengths_of short_of extended_of after_data
limit_alone_said c =
    let z : ◌≡◌ {A = ℕ} 258 2 = gives_same _ _ ((c.says plain 0 2).1 (whole plain_said 256 plain_read (absent (omega arith) refl) (omega arith), omega arith)) in
    omega arith

sent_not : (n m : ℕ) (r : Remainder) → ◌≡◌ {A = Outcome Sent} (Gives (sending n r)) (R m) → ⊥
sent_not n m r e = r_gives m _ (sym e)

pub limit_alone : Claims.FrameRoomServes Wrong.limit_alone frame_limit sending_of → ⊥
unfolding response_room_of limit_of part_length next_part_of frame_limit read_by say_of lengths_of short_of extended_of after_data
limit_alone c = sent_not 2 2 (rest 0 0) (c.needed plain plain_said 0 258 [] (0 ∷ 0 ∷ []) plain_read refl (omega arith) (omega arith))

-- no bytes at all
pub no_shape_body : Claims.FrameRoomExactly Wrong.no_shape_body → ⊥
unfolding response_room_of part_length read_by say_of lengths_of short_of extended_of after_data
no_shape_body c =
    let z : ◌≡◌ {A = ℕ} 3 2 = gives_same _ _ ((c.says [] 1 2).1 (no_shape (λ said e. word_gives _ said e), omega arith)) in
    omega arith

-- ---- a response that does not fit: an Authenticate with P1 08 in shape 7 with Le 1, and a signature of 72 bytes: 77 bytes, and two for the status
abbrev login : Inputs
login =
    record {
      side = 0;
      frame = 0x00 ∷ 0x02 ∷ 0x08 ∷ 0x00 ∷ 0x00 ∷ 0x00 ∷ 0x41 ∷ replicate 65 0 ++ (0x00 ∷ 0x01 ∷ []);
      hardware = record { allowed = Allowed'.Yes; stored = true; attestation = Attestation'.Present; good = true; counter = Some 1 };
      new_handle = [];
      certificate = [];
      x = replicate 32 0;
      y = replicate 32 0;
      room = 77;
      remainder = rest 0 0;
      part_room = 0;
    }

abbrev login_said : Says
login_said = record { header = record { cla = 0x00; ins = 0x02; p1 = 0x08; p2 = 0x00 }; shape = 7; lc = 65; le = 1; data_at = 7 }

login_read : read_of login.frame ≡ Gives login_said
unfolding read_by say_of lengths_of short_of extended_of after_data
login_read = refl

login_comes : command_of login.frame ≡ Gives (Authenticate 0x08 login_said)
unfolding command_of on_reading by_instruction authenticate_of data_of part_of read_by say_of lengths_of short_of extended_of after_data
login_comes = refl

abbrev logs_in : Finishing
logs_in = record { order = (decision_of (fresh 1000) 0 login).order; certificate = []; signed = true; signature = replicate 72 0; reply = replicate 77 0 }

logs_in_lem : (decision_of (fresh 1000) 0 login).answer ≡ Gives Ordered
unfolding decision_of path_of allowed_path command_path login_path counted_ending settle_of
logs_in_lem = rw login_comes refl

logs_in_77 : (end_of logs_in).answer ≡ Gives 77
unfolding finish_of is_authenticate_layout decision_of path_of allowed_path command_path login_path counted_ending settle_of authenticate_order_of block challenge_of application_of data_of part_of command_of on_reading by_instruction authenticate_of read_by say_of lengths_of short_of extended_of after_data
logs_in_77 = refl

logs_in_bare : 0 ≡ certificate_length (decision_of (fresh 1000) 0 login).order
unfolding decision_of path_of allowed_path command_path login_path counted_ending settle_of authenticate_order_of block challenge_of application_of data_of part_of command_of on_reading by_instruction authenticate_of read_by say_of lengths_of short_of extended_of after_data
logs_in_bare = refl

login_whole : frame_limit login.frame ≡ 0
unfolding frame_limit limit_of
login_whole = rw login_read refl

lost : (held : List ℕ) (n limit : ℕ) (buffer : List ℕ) → n ≡ 77 → limit ≡ 0 → length buffer < 79 → FirstPart sending_of held n limit buffer → ⊥
lost held n limit buffer is unlimited short f =
    let all : Goes limit n n = rw unlimited Goes.whole in
    r_gives 2 _ (sym ((next_exactly.r2 held (rest 0 n) limit buffer).1 (inr (n, all, omega (arith, is, short)))) ∙ f.sends.says)

asked : (room : FrameRoom) (m : ℕ) → room login.frame 77 ≡ Gives m → RoomWasAsked decision_of room (fresh 1000) 0 login logs_in (replicate m 0)
asked room m e =
    record {
      blocks = (refl, refl);
      longest = 77;
      is_longest = authenticate 0x08 login_said login_comes (inr refl);
      bytes = m;
      asked = e;
      had = omega (arith, length-replicate {A = ℕ} m 0);
      ordered = logs_in_lem;
      order = refl;
      certificate = logs_in_bare;
      reply = omega arith;
      signature = omega arith;
    }

-- three bytes, which its Le would come to
pub extended_by_le_loses : Claims.NoTouchIsLost decision_of end_of Wrong.extended_by_le frame_limit sending_of → ⊥
unfolding response_room_of part_length
extended_by_le_loses c =
    let x = (c (fresh 1000) 0 login logs_in (replicate 3 0) (asked Wrong.extended_by_le 3 (rw login_read refl))).served refl in
    lost _ x.0 _ (replicate 3 0) (gives_same _ _ (sym x.1 ∙ logs_in_77)) login_whole (omega arith) x.2

-- 77 bytes
pub without_status_loses : Claims.NoTouchIsLost decision_of end_of Wrong.without_status frame_limit sending_of → ⊥
unfolding limit_of part_length
without_status_loses c =
    let x = (c (fresh 1000) 0 login logs_in (replicate 77 0) (asked Wrong.without_status 77 (rw login_read refl))).served refl in
    lost _ x.0 _ (replicate 77 0) (gives_same _ _ (sym x.1 ∙ logs_in_77)) login_whole (omega arith) x.2
