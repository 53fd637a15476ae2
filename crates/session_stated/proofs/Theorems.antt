-- The claims of specs/Claims.antt, each under its own name.
use Prim.Native.Nat.{ℕ, ◌+◌, ◌-◌, ◌/◌, ◌%◌, ◌<◌, ◌≤◌}
use mathlib.Core.Path.{◌≡◌, refl, ap, ap₂, sym, subst, ◌∙◌}
use mathlib.Core.Bool.{Bool, true, false, false≢true}
use mathlib.Core.Logic.{◌↔◌, ◌⊎◌, inl, inr}
use mathlib.Core.List.{List, [], ◌∷◌, ◌++◌, append-nil}
use native.Mathlib.Omega.{arith}
use native.Mathlib.Decide.{dec_lt}
use borrow.Author.Tests.{eq-eqb, ne_eqb, eqb-true}
use lib.ListN.{length, take, drop}
use Rattle.outcome.specs.Outcome.{Outcome, R, Word, Gives}
use Rattle.outcome.proofs.Laws.{gives_same, r_gives, word_gives, both_are}
use Rattle.octets.specs.Bytes.{laid}
use Rattle.apdu_stated.specs.Answers.{Says}
use Rattle.apdu_stated.specs.Reading.{read_by, read_of, say_of, lengths_of, short_of, extended_of, after_data}
use Rattle.command_stated.specs.Command.{command_of, on_reading, by_instruction, get_response_of}
use Rattle.response_stated.specs.declared.Remainder.{Remainder}
use Rattle.response_stated.specs.Words.{rest}
use Rattle.response_stated.specs.declared.Response.{Response}
use Rattle.response_stated.specs.declared.Sent.{Sent}
use Rattle.response_stated.specs.Responses.{read_response_of, response_body_of}
use Rattle.response_stated.specs.Parts.{limit_of, part_length, left_status, rest_after, next_part_of, part_bytes, part_response, part_laid}
use Rattle.response_stated.specs.Terms.{sending_of, sending, spelled, IsResponse, Tells, nothing_left, some_left, more_left}
use Rattle.response_stated.specs.Fetching.{Fetch, got, left, remaining, called}
use Rattle.response_stated.proofs.Laws.{PartWay, whole, cut, last, part_way, part_limit, part_some, part_most, part_long, part_joins, next_given, pair_is, long_two, cut_back, read_back, halves, front_of, laid_spelled, sends_given, step_within, step_joins, tells, limit_range, given_is, room_serves, room_same}
use Rattle.u2f_up_stated.specs.Moments.{fresh, settle_of}
use Rattle.u2f_up_stated.specs.declared.Presence.{Presence}
use Rattle.u2f_up_stated.specs.Numbers.{presence_in}
use Rattle.u2f_up_stated.specs.declared.PresenceRecord.{PresenceRecord}
use Rattle.ctap1_stated.specs.declared.Decision.{Decision}
use Rattle.ctap1_stated.specs.Words.{Inputs, Body, Ordered, Part, DecisionGives, DecisionResult, DecisionLeft, handed_of}
use Rattle.ctap1_stated.specs.Numbers.{hardware_of}
use Rattle.ctap1_stated.specs.Terms.{Decider}
use Rattle.ctap1_stated.specs.Claims.{DecidesExactly, LimitsExactly, RepliesExactly, PartsExactly}
use Rattle.ctap1_stated.specs.Path.{limit_on, frame_limit, fetch_path, command_path, allowed_path, path_of}
use Rattle.ctap1_stated.specs.Decision.{decision_of, reply_left, block_after, block_left}
use Rattle.ctap1_stated.specs.Session.{is_get_response, remainder_left, part_after, part_left}
use Rattle.ctap1_stated.specs.declared.Allowed.TheVariants as Allowed'
use Rattle.ctap1_stated.specs.declared.Attestation.TheVariants as Attestation'
use Rattle.std.specs.Prelude.{None}
use Rattle.ctap1_stated.proofs.Laws.{takes, is_a_part, limits_exactly, limits_only, replies_exactly, parts_exactly, decides_exactly, decides_only, left_apart}
use Rattle.signing_stated.specs.Finishing.{end_of}
use Rattle.session_stated.specs.Held.{Session, SessionRecord, remainder_in, session_in, session_after, frame_room_of}
use Rattle.session_stated.specs.Sessions.{Visit, joined_over, left_over}
use Rattle.session_stated.specs.Claims
use Rattle.session_stated.specs.Promises.{ToDecide, inputs_in, Stated, Dropped, Left}
use Rattle.session_stated.specs.Terms.{NoShape, CanTake, changed_by}
use Rattle.session_stated.proofs.Rooms.{limit_taken, no_limit, takes_so, some_take, room_in_shape, by_command}
use Rattle.session_stated.proofs.Steps.{fetch, Step, keeps, sends, step, joins_over, parts_over_lem, refused_over}
use Rattle.session_stated.proofs.Counts.{Need, exact, need_first}

pub FetchesNext : Claims.FetchesNext decision_of frame_limit part_left sending_of
FetchesNext p t a body old n after lb lo e =
    let f = is_a_part p t a n after e in
    let g = next_given (length body) a.remainder (frame_limit a.frame) (length old) (omega (arith, f.within, lb)) (omega (arith, f.room, lo)) in
    pair_is _ _ _ _
    (sym g ∙ ap₂ (λ (k : ℕ) (r : Remainder). Gives (sending k r)) (sym f.long) (sym f.left))
    (ap (λ (o : Outcome Sent). part_laid o (part_response body a.remainder (frame_limit a.frame)) old) (sym g)
    ∙ ap (λ (o : Outcome DecisionGives). part_after o (part_response body a.remainder (frame_limit a.frame)) old) (sym e))

-- ---- a response is read in one way
read_so : (l bytes part : List ℕ) (told status : ℕ) → l ≡ spelled bytes told → IsResponse l part status → (part ≡ bytes) × (status ≡ told)
read_so l bytes part told status e is =
    let sw1 = is.sw1 in
    let sw2 = is.sw2 in
    let bodies : part ≡ bytes = sym (cut_back part sw1 sw2) ∙ ap response_body_of (sym is.are ∙ e) ∙ cut_back bytes (told / 256) (told % 256) in
    let reads = gives_same _ _ (sym (read_back part sw1 sw2) ∙ ap read_response_of (sym is.are ∙ e) ∙ read_back bytes (told / 256) (told % 256)) in
    (bodies, is.is ∙ ap (λ (r : Response). r.status) reads ∙ halves told)

-- 9000 is told of nothing left
told_done : {count status : ℕ} → Tells count status → status ≡ 0x9000 → count ≡ 0
told_done nothing_left e = refl
told_done (some_left a b) e = absurd (omega arith)
told_done (more_left a) e = absurd (omega arith)

module _ (body : List ℕ) where
  no_response : (part : List ℕ) (status : ℕ) → IsResponse [] part status → ⊥
  no_response part status is = omega (arith, ap (length {A = ℕ}) is.are, long_two part is.sw1 is.sw2)

  -- what went out is the part's response
  got_is : (r : Remainder) (a : Fetch) → r.place + r.count ≤ length body → part_length a.limit r.count + 2 ≤ length a.buffer
      → got (called sending_of body r a) ≡ spelled (part_bytes body r a.limit) (left_status (rest_after r a.limit).count)
  got_is r a within room =
      ap got (sends_given body r a.limit a.buffer within room)
      ∙ ap (λ (k : ℕ). take (k + 2) (part_response body r a.limit ++ drop (part_length a.limit r.count + 2) a.buffer)) (sym (part_long body r a.limit within))
      ∙ front_of (part_bytes body r a.limit) _ _

  all_gone : (r : Remainder) (limit : ℕ) → (rest_after r limit).count ≡ 0 → part_bytes body r limit ≡ remaining body r
  all_gone r limit z =
      sym (append-nil (part_bytes body r limit)) ∙ ap (λ (k : ℕ). part_bytes body r limit ++ take k (drop (rest_after r limit).place body)) (sym z) ∙ part_joins body r limit

  last_one : (r : Remainder) (v : Visit) {s : List ℕ} {k : Remainder} {n : ℕ} → Step body r v s k n → (part : List ℕ) → IsResponse s part 0x9000 → (k.count ≡ 0) × (part ≡ remaining body r)
  last_one r v keeps part is = absurd (no_response part 0x9000 is)
  last_one r v (sends some within room) part is =
      let limit = frame_limit v.lent.frame in
      let x = read_so _ (part_bytes body r limit) part (left_status (rest_after r limit).count) 0x9000 (got_is r (fetch v) within room) is in
      let z : (rest_after r limit).count ≡ 0 = told_done (tells (rest_after r limit).count) (sym x.1) in
      (ap (λ (o : Outcome Sent). (left r o).count) (sym (next_given (length body) r limit (length v.buffer) within room)) ∙ z, x.0 ∙ all_gone r limit z)

pub SessionJoins : Claims.SessionJoins decision_of frame_limit remainder_left part_left sending_of
SessionJoins =
    record {
      so_far = λ body n frame buffer visits h each.
          let a : Fetch = record { limit = frame_limit frame; buffer = buffer } in
          ap (λ (l : List ℕ). response_body_of (got (called sending_of body (rest 0 n) a)) ++ l) (joins_over body (left (rest 0 n) (called sending_of body (rest 0 n) a).0) visits each)
          ∙ step_joins body (rest 0 n) a (omega arith);
      done = λ body r visits v part h each asks is.
          let x = last_one body (left_over decision_of remainder_left part_left body r visits) v (step body (left_over decision_of remainder_left part_left body r visits) v asks) part is in
          (x.0, ap (λ (l : List ℕ). joined_over decision_of remainder_left part_left body r visits ++ l) x.1 ∙ joins_over body r visits each);
    }

-- ---- limits
whole_part : (count : ℕ) → part_length 0 count ≡ count
whole_part count = go (part_way 0 count)
  where
    go : {n : ℕ} → PartWay 0 count n → n ≡ count
    go (whole z) = refl
    go (cut some h) = absurd (omega arith)
    go (last some h) = absurd (omega arith)

module _ (p : Presence) (t : ℕ) (a : Inputs) (n : ℕ) (after : Remainder) (e : (decision_of p t a).answer ≡ Gives (Part n after)) where
  at_most : (limit : ℕ) → frame_limit a.frame ≡ limit → 1 ≤ limit → n ≤ limit + 2
  at_most limit is some = omega (arith, (is_a_part p t a n after e).long, ap (λ (k : ℕ). part_length k a.remainder.count) is, part_limit limit a.remainder.count some)

  all_of_it : frame_limit a.frame ≡ 0 → (n ≡ a.remainder.count + 2) × (after.count ≡ 0)
  all_of_it is =
      let f = is_a_part p t a n after e in
      let all : takes p t a ≡ a.remainder.count = ap (λ (k : ℕ). part_length k a.remainder.count) is ∙ whole_part a.remainder.count in
      (f.long ∙ ap (λ (k : ℕ). k + 2) all, ap (λ (r : Remainder). r.count) f.left ∙ omega (arith, all))

  within : (said : Says) → read_of a.frame ≡ Gives said → (1 ≤ limit_of said) × (limit_of said ≤ 256) → n ≤ 258
  unfolding frame_limit
  within said r (low, high) = omega (arith, at_most (limit_of said) (rw r) low, high)

-- 00 C0 00 00, where 257 bytes remain
abbrev longest : Inputs
longest =
    record {
      side = 0;
      frame = 0x00 ∷ 0xC0 ∷ 0x00 ∷ 0x00 ∷ [];
      hardware = record { allowed = Allowed'.Yes; stored = true; attestation = Attestation'.Present; good = true; counter = None };
      new_handle = [];
      certificate = [];
      x = [];
      y = [];
      room = 257;
      remainder = rest 0 257;
      part_room = 258;
    }

reached : (decision_of (fresh 1000) 0 longest).answer ≡ Gives (Part 258 (rest 256 1))
unfolding decision_of path_of allowed_path command_path fetch_path settle_of next_part_of frame_limit limit_of part_length command_of on_reading by_instruction get_response_of read_by say_of lengths_of short_of extended_of after_data
reached = refl

pub SessionLimits : Claims.SessionLimits decision_of
SessionLimits =
    record {
      given = λ p t a n after said e r short some. at_most p t a n after e said.le (limits_exactly.given a.frame said r short (λ z. omega arith)) some;
      absent = λ p t a n after said e r short z. at_most p t a n after e 256 (limits_exactly.absent a.frame said r short z) (omega arith);
      extended = λ p t a n after said e r long. all_of_it p t a n after e (limits_exactly.extended a.frame said r long);
      within = λ p t a n after said e r are short. within p t a n after e said r (limit_range a.frame said are r short);
      reached = (fresh 1000, 0, longest, refl, reached);
    }

pub SessionTells : Claims.SessionTells decision_of part_left
SessionTells p t a body old n after part status lb lo e is =
    let f = is_a_part p t a n after e in
    let limit = frame_limit a.frame in
    let told = left_status (rest_after a.remainder limit).count in
    let long = part_long body a.remainder limit (omega (arith, f.within, lb)) in
    let there : part_left a (decision_of p t a) body old ≡ spelled (part_bytes body a.remainder limit) told ++ drop (length (part_bytes body a.remainder limit) + 2) old =
    ap (λ (o : Outcome DecisionGives). part_after o (part_response body a.remainder limit) old) e ∙ laid_spelled (part_bytes body a.remainder limit) told old (omega (arith, f.room, lo, long)) in
    let out : take n (part_left a (decision_of p t a) body old) ≡ spelled (part_bytes body a.remainder limit) told =
    ap₂ (λ (k : ℕ) (l : List ℕ). take k l) (f.long ∙ ap (λ (k : ℕ). k + 2) (sym long)) there ∙ front_of (part_bytes body a.remainder limit) told _ in
    let x = read_so _ (part_bytes body a.remainder limit) part told status out is in
    rw (x.1, f.left) (tells (rest_after a.remainder limit).count)

-- ---- what the joining does not say
pub SoFarOfRefusers : Claims.SoFarOfRefusers frame_limit remainder_left part_left sending_of
SoFarOfRefusers decide refuses body n frame buffer visits h e =
    let a : Fetch = record { limit = frame_limit frame; buffer = buffer } in
    let k : Remainder = left (rest 0 n) (called sending_of body (rest 0 n) a).0 in
    let x = refused_over decide refuses body k visits e in
    ap₂ (λ (s : List ℕ) (r : Remainder). response_body_of (got (called sending_of body (rest 0 n) a)) ++ (s ++ remaining body r)) x.0 x.1
    ∙ step_joins body (rest 0 n) a (omega arith)

-- ---- how many
pub SessionParts : Claims.SessionParts decision_of frame_limit remainder_left part_left sending_of
SessionParts =
    record {
      at_most = λ body n frame buffer sent visits h some each e.
          omega (arith, parts_over_lem body sent.remainder visits each, first body n frame buffer sent e, part_some (frame_limit frame) n some, part_most (frame_limit frame) n);
      of_none = λ body frame buffer sent visits each e.
          omega (arith, parts_over_lem body sent.remainder visits each, first body 0 frame buffer sent e);
      exactly = λ body n L k frame buffer sent visits h some up is e each low.
          let x = need_first L some n k up in
          let f = given_is body (rest 0 n) (frame_limit frame) buffer sent.length sent.remainder e in
          let short : sent.remainder.count ≡ n - part_length L n = f.1 ∙ ap (λ (l : ℕ). n - part_length l n) is in
          omega (arith, x.1, exact L some body sent.remainder visits x.0 (within_first body n frame buffer sent h e) (subst (λ (c : ℕ). Need c L x.0) (sym short) x.2) each (omega (arith, x.1)));
    }
  where
    first : (body : List ℕ) (n : ℕ) (frame buffer : List ℕ) (sent : Sent) → (sending_of body (rest 0 n) (frame_limit frame) buffer).0 ≡ Gives sent → sent.remainder.count ≡ n - part_length (frame_limit frame) n
    first body n frame buffer sent e = (given_is body (rest 0 n) (frame_limit frame) buffer sent.length sent.remainder e).1

    within_first : (body : List ℕ) (n : ℕ) (frame buffer : List ℕ) (sent : Sent) → n ≤ length body → (sending_of body (rest 0 n) (frame_limit frame) buffer).0 ≡ Gives sent → sent.remainder.place + sent.remainder.count ≤ length body
    within_first body n frame buffer sent h e =
        let a : Fetch = record { limit = frame_limit frame; buffer = buffer } in
        subst (λ (o : Outcome Sent). (left (rest 0 n) o).place + (left (rest 0 n) o).count ≤ length body) e (step_within body (rest 0 n) a (omega arith))

-- ---- what is lent by name
pub RemainderStands : Claims.RemainderStands remainder_in
RemainderStands place count limit = refl

pub SessionStands : Claims.SessionStands session_in
SessionStands place count limit = refl

pub HardwareStands : Claims.HardwareStands (λ i. (inputs_in i).hardware)
HardwareStands i allowed attestation stored good counted counter is = ap hardware_of is

-- ---- what a transport goes on with
limit_after : (answer : Outcome DecisionGives) (read : Outcome Says) (s : Session) → ((k : ℕ) → answer ≡ R k → ⊥) → (session_after answer read s).limit ≡ limit_on read
limit_after (R n) read s other = absurd (other n refl)
limit_after (Word w) read s other = refl
limit_after (Gives g) read s other = refl

unread : (read : Outcome Says) → NoShape read → (is_get_response read ≡ false) × (limit_on read ≡ 0)
unread (R n) none = (refl, refl)
unread (Word w) none = (refl, refl)
unread (Gives said) none = absurd (none said refl)

pub GoesOnExactly : Claims.GoesOnExactly session_after
GoesOnExactly =
    record {
      refused = λ n read s. refl;
      part = λ n left read s. refl;
      body = λ n read s. refl;
      order = λ read s. refl;
      kept = λ w said s e. rw (eq-eqb said.header.ins 0xC0 e);
      other_ins = λ w said s e. rw (ne_eqb said.header.ins 0xC0 e);
      no_shape = λ w read s none. rw (unread read none).0;
      limit = λ answer said n s other x. limit_after answer (Gives said) s other ∙ limit_taken said n x;
      no_limit = λ answer said s other long. limit_after answer (Gives said) s other ∙ no_limit said long;
      none = λ answer read s other out. limit_after answer read s other ∙ (unread read out).1;
    }

-- ---- the room for a response
pub FrameRoomExactly : Claims.FrameRoomExactly frame_room_of
FrameRoomExactly = record { says = λ frame longest n. (said frame longest n, λ x. (takes_so frame longest n x.0).0 x.1); r2 = λ frame longest. (unsaid frame longest, λ x. (takes_so frame longest x.0 x.1).1 x.2) }
  where
    said : (frame : List ℕ) (longest n : ℕ) → frame_room_of frame longest ≡ Gives n → CanTake frame longest n × (n < 0x10000000000000000)
    said frame longest n e = by (some_take frame longest)
      where
        by : (k : ℕ) × CanTake frame longest k → CanTake frame longest n × (n < 0x10000000000000000)
        by (k, x) = which (dec_lt k 0x10000000000000000)
          where
            which : Dec (k < 0x10000000000000000) → CanTake frame longest n × (n < 0x10000000000000000)
            which (yes h) = let same : k ≡ n = gives_same _ _ (sym ((takes_so frame longest k x).0 h) ∙ e) in (subst (CanTake frame longest) same x, omega (arith, same, h))
            which (no h) = absurd (r_gives 2 n (sym ((takes_so frame longest k x).1 (omega (arith, h))) ∙ e))

    unsaid : (frame : List ℕ) (longest : ℕ) → frame_room_of frame longest ≡ R 2 → (n : ℕ) × CanTake frame longest n × (0x10000000000000000 ≤ n)
    unsaid frame longest e = by (some_take frame longest)
      where
        by : (k : ℕ) × CanTake frame longest k → (n : ℕ) × CanTake frame longest n × (0x10000000000000000 ≤ n)
        by (k, x) = which (dec_lt k 0x10000000000000000)
          where
            which : Dec (k < 0x10000000000000000) → (n : ℕ) × CanTake frame longest n × (0x10000000000000000 ≤ n)
            which (yes h) = absurd (r_gives 2 k (sym e ∙ (takes_so frame longest k x).0 h))
            which (no h) = (k, x, omega (arith, h))

pub FrameRoomServes : Claims.FrameRoomServes frame_room_of frame_limit sending_of
FrameRoomServes =
    record {
      enough = λ frame said longest m n body buffer e asked less within room k. room_serves.enough (frame_limit frame) longest m n body buffer (sym (room_in_shape frame said longest e) ∙ asked) less within room k;
      needed = λ frame said longest m body buffer e asked within short. room_serves.needed (frame_limit frame) longest m body buffer (sym (room_in_shape frame said longest e) ∙ asked) within short;
    }

-- ---- the contracts
module _ (stated : Bool → (limit : ℕ) → SessionRecord → SessionRecord) (dropped : (limit : ℕ) → SessionRecord → SessionRecord) (left : Remainder → (limit : ℕ) → SessionRecord → SessionRecord)
    (S : (fetches : Bool) (limit : ℕ) (n : SessionRecord) → Stated fetches limit n (stated fetches limit n)) (D : (limit : ℕ) (n : SessionRecord) → Dropped limit (dropped limit n))
    (L : (r : Remainder) (limit : ℕ) (n : SessionRecord) → Left r limit (left r limit n)) where
  goes_on_as : (answer : Outcome DecisionGives) (read : Outcome Says) (s : Session)
      → session_after answer read s ≡ session_in (changed_by stated dropped left answer read (record { place = s.remainder.place; count = s.remainder.count; limit = s.limit }))
  goes_on_as (R n) read s = refl
  goes_on_as (Word w) read s = sym (S (is_get_response read) (limit_on read) _)
  goes_on_as (Gives (Body n)) read s = sym (D (limit_on read) _)
  goes_on_as (Gives Ordered) read s = sym (D (limit_on read) _)
  goes_on_as (Gives (Part n after)) read s = sym (L after (limit_on read) _)

asks_c0 : (read : Outcome Says) → (is_get_response read ≡ true) ↔ ((said : Says) × (read ≡ Gives said) × (said.header.ins ≡ 0xC0))
asks_c0 (R n) = (λ e. absurd (false≢true e), λ x. absurd (r_gives n x.0 x.1))
asks_c0 (Word w) = (λ e. absurd (false≢true e), λ x. absurd (word_gives w x.0 x.1))
asks_c0 (Gives said) = (λ e. (said, refl, eqb-true said.header.ins 0xC0 e), λ x. eq-eqb said.header.ins 0xC0 (ap (λ (o : Says). o.header.ins) (gives_same _ _ x.1) ∙ x.2))

body_part : (n m : ℕ) (after : Remainder) → ◌≡◌ {A = Outcome DecisionGives} (Gives (Body n)) (Gives (Part m after)) → ⊥
body_part n m after e = let z : ◌≡◌ {A = ℕ} 0 1 = cc in omega arith

order_part : (m : ℕ) (after : Remainder) → ◌≡◌ {A = Outcome DecisionGives} (Gives Ordered) (Gives (Part m after)) → ⊥
order_part m after e = let z : ◌≡◌ {A = ℕ} 0 1 = cc in omega arith

-- what a decision leaves in the buffers, of whatever decides and leaves as ctap1_stated's claims have it
module _ (g : Decider) (G : DecidesExactly g) (i : ToDecide) where
  abbrev ours : DecisionResult
  ours = decision_of (presence_in i.presence) i.moment (inputs_in i)

  abbrev its : DecisionResult
  its = g (presence_in i.presence) i.moment (inputs_in i)

  same : ours ≡ its
  same = decides_only decision_of g decides_exactly G (presence_in i.presence) i.moment (inputs_in i)

  reply_as : (left : DecisionResult → List ℕ → List ℕ) → RepliesExactly g left → reply_left ours i.reply ≡ left its i.reply
  reply_as left is = by (replies_exactly (presence_in i.presence) i.moment (inputs_in i) i.reply refl) (is (presence_in i.presence) i.moment (inputs_in i) i.reply refl)
    where
      Written : DecisionResult → List ℕ → Type 0
      Written d l = (d.answer ≡ Gives (Body 6)) × (6 ≤ length i.reply) × (l ≡ 0x55 ∷ 0x32 ∷ 0x46 ∷ 0x5F ∷ 0x56 ∷ 0x32 ∷ drop 6 i.reply)

      Kept : DecisionResult → List ℕ → Type 0
      Kept d l = ((n : ℕ) → d.answer ≡ Gives (Body n) → ⊥) × (l ≡ i.reply)

      by : Written ours (reply_left ours i.reply) ⊎ Kept ours (reply_left ours i.reply) → Written its (left its i.reply) ⊎ Kept its (left its i.reply) → reply_left ours i.reply ≡ left its i.reply
      by (inl x) (inl y) = x.2 ∙ sym y.2
      by (inl x) (inr y) = absurd (y.0 6 (ap (λ (d : DecisionResult). d.answer) (sym same) ∙ x.0))
      by (inr x) (inl y) = absurd (x.0 6 (ap (λ (d : DecisionResult). d.answer) same ∙ y.0))
      by (inr x) (inr y) = x.1 ∙ sym y.1

  block_as : (its.answer ≡ Gives Ordered → block_left ours i.block ≡ its.order.bytes) × ((its.answer ≡ Gives Ordered → ⊥) → block_left ours i.block ≡ i.block)
  block_as = (
    λ e. ap (λ (d : DecisionResult). block_left d i.block) same ∙ ap (λ (o : Outcome DecisionGives). block_after o its.order.bytes i.block) e,
    λ n. ap (λ (d : DecisionResult). block_left d i.block) same ∙ by its.answer n,
  )
    where
      by : (o : Outcome DecisionGives) → (o ≡ Gives Ordered → ⊥) → block_after o its.order.bytes i.block ≡ i.block
      by (R n) x = refl
      by (Word w) x = refl
      by (Gives (Body n)) x = refl
      by (Gives Ordered) x = absurd (x refl)
      by (Gives (Part n after)) x = refl

  part_as : (limit : List ℕ → ℕ) → LimitsExactly limit → (left : Inputs → DecisionResult → (body old : List ℕ) → List ℕ) → PartsExactly g limit left
      → part_left (inputs_in i) ours i.reply i.part ≡ left (inputs_in i) its i.reply i.part
  part_as limit are left is = by its.answer refl
    where
      there : (o : Outcome DecisionGives) → its.answer ≡ o → ours.answer ≡ o
      there o e = ap (λ (d : DecisionResult). d.answer) same ∙ e

      none : (o : Outcome DecisionGives) → its.answer ≡ o → ((n : ℕ) (after : Remainder) → o ≡ Gives (Part n after) → ⊥) → part_left (inputs_in i) ours i.reply i.part ≡ left (inputs_in i) its i.reply i.part
      none o e x =
          parts_exactly.other (presence_in i.presence) i.moment (inputs_in i) i.reply i.part (λ n after k. x n after (sym (there o e) ∙ k))
          ∙ sym (is.other (presence_in i.presence) i.moment (inputs_in i) i.reply i.part (λ n after k. x n after (sym e ∙ k)))

      by : (o : Outcome DecisionGives) → its.answer ≡ o → part_left (inputs_in i) ours i.reply i.part ≡ left (inputs_in i) its i.reply i.part
      by (R n) e = none (R n) e (λ m after k. r_gives _ _ k)
      by (Word w) e = none (Word w) e (λ m after k. word_gives _ _ k)
      by (Gives (Body n)) e = none (Gives (Body n)) e (λ m after k. body_part n m after k)
      by (Gives Ordered) e = none (Gives Ordered) e (λ m after k. order_part m after k)
      by (Gives (Part n after)) e =
          parts_exactly.part (presence_in i.presence) i.moment (inputs_in i) i.reply i.part n after (there (Gives (Part n after)) e)
          ∙ ap (λ (k : ℕ). laid (part_response i.reply (remainder_in i.session) k) i.part) (limits_only frame_limit limit limits_exactly are i.frame)
          ∙ sym (is.part (presence_in i.presence) i.moment (inputs_in i) i.reply i.part n after e)

pub ContractsAsClaimed : Claims.ContractsAsClaimed
ContractsAsClaimed =
    record {
      remainder_lent = λ f is. subst Claims.RemainderStands (λ d n. sym (is n) d) RemainderStands;
      goes_on = λ stated dropped left S D L. subst Claims.GoesOnExactly (λ d answer read s. goes_on_as stated dropped left S D L answer read s d) GoesOnExactly;
      room_for_response = λ f is. subst Claims.FrameRoomExactly (λ d frame longest. sym (is frame longest) d) FrameRoomExactly;
      decide = λ g G limit is i r presence reply block part h. (
        ap (λ (w : DecisionLeft). w.said) h.0.0 ∙ ap handed_of (decides_only decision_of g decides_exactly G (presence_in i.presence) i.moment (inputs_in i)),
        h.1 ∙ limits_only frame_limit limit limits_exactly is i.frame,
        (λ e. (asks_c0 (read_of i.frame)).0 (sym h.2 ∙ e), λ x. h.2 ∙ (asks_c0 (read_of i.frame)).1 x),
      );
      reply = λ g G left is i r presence reply block part h. h.0.1 ∙ reply_as g G i left is;
      block = λ g G i r presence reply block part h.
          let left = ap (λ (w : DecisionLeft). w.block) h.0.0 in
          (λ e. left ∙ (block_as g G i).0 e, λ n. left ∙ (block_as g G i).1 n);
      part = λ g G limit are left is i r presence reply block part h. h.0.2 ∙ part_as g G i limit are left is;
    }

-- ---- two results are equal
three_apart : (a b : SessionRecord) → session_in a ≡ session_in b → a ≡ b
three_apart a b e = ap (λ (s : Session). record { place = s.remainder.place; count = s.remainder.count; limit = s.limit }) e

pub ResultsDetermined : Claims.ResultsDetermined
ResultsDetermined =
    record {
      remainder_lent = λ n a b. both_are a b;
      decide = λ i a b p q.
          let lefts : ◌≡◌ {A = Decision × (PresenceRecord × List ℕ)} (a.0.decision, (a.1.0, a.1.1.1.0)) (b.0.decision, (b.1.0, b.1.1.1.0)) =
          left_apart _ _ _ p.0.0 q.0.0 in
          let limits : a.0.limit ≡ b.0.limit = both_are _ _ p.1 q.1 in
          let fetches : a.0.fetches ≡ b.0.fetches = both_are _ _ p.2 q.2 in
          let replies : a.1.1.0 ≡ b.1.1.0 = both_are _ _ p.0.1 q.0.1 in
          let parts : a.1.1.1.1 ≡ b.1.1.1.1 = both_are _ _ p.0.2 q.0.2 in
          λ d. (record { decision = (lefts d).0; limit = limits d; fetches = fetches d }, ((lefts d).1.0, (replies d, ((lefts d).1.1, parts d))));
      stated = λ fetches limit n a b p q. three_apart a b (both_are _ _ p q);
      dropped = λ limit a b p q. three_apart a b (both_are _ _ p q);
      left = λ r limit a b p q. three_apart a b (both_are _ _ p q);
      room_for_response = λ frame longest a b p q. room_same a b (both_are _ _ p q);
    }

-- ---- no touch is lost to a length
pub NoTouchIsLost : Claims.NoTouchIsLost decision_of end_of frame_room_of frame_limit sending_of
NoTouchIsLost = by_command
