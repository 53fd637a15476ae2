-- The definitions meet the claims of specs/Claims.antt, each under its claim's name.
use Prim.Native.Nat.{ℕ, ◌+◌, ◌-◌, ◌*◌, ◌/◌, ◌%◌, ◌<◌, ◌≤◌}
use mathlib.Core.Path.{◌≡◌, refl, ap, ap₂, sym, subst, ◌∙◌}
use mathlib.Core.List.{List, [], ◌∷◌, ◌++◌}
use mathlib.Core.Logic.{◌↔◌, ◌⊎◌, inl, inr}
use native.Mathlib.Omega.{arith}
use native.Mathlib.Decide.{dec_lt, ℕ_discrete}
use lib.ListN.{length, take, drop, replicate, length-append}
use lib.Seq.{get_or-append-add}
use Rattle.outcome.specs.Outcome.{Outcome, R, Gives}
use Rattle.outcome.proofs.Laws.{gives_same, r_gives, both_are}
use Rattle.octets.specs.Bytes.{byte, AreBytes}
use Rattle.octets.proofs.Laws.{field_at}
use Rattle.apdu_stated.specs.Terms.{InTable, OneByteLe, full, plain, row1, row2, row3, row4, row5, row7, row8}
use Rattle.apdu_stated.specs.Reading.{read_of, read_by, say_of, lengths_of}
use Rattle.apdu_stated.proofs.Laws.{read_exactly}
use Rattle.response_stated.specs.Words.{Says, says_of, Remainder, rest, Response, Sent, response_read, response_written, part_sent, room_said}
use Rattle.response_stated.specs.Responses.{response_of, write_response_of, response_laid, read_response_of, response_body_of}
use Rattle.response_stated.specs.Parts.{limit_of, part_length, left_status, rest_after, next_part_of, part_bytes, part_response, part_laid, response_room_of}
use Rattle.response_stated.specs.Terms.{writing_of, sending_of, reading, sending, spelled, IsResponse, Goes, Tells, nothing_left, some_left, more_left, Sends}
use Rattle.response_stated.specs.Claims
use Rattle.response_stated.proofs.Cases
use Rattle.response_stated.proofs.Numbers.{read_same, wrote_same, next_same, room_same}
use Rattle.response_stated.proofs.OnBytes.{pair_is, laid_spelled, split, long_two, cut_back, read_back, halves, front_of, sends_given, shown}
use Rattle.response_stated.proofs.Ways
use Rattle.response_stated.proofs.Walks

-- ---- a response, written and read
pub WritesExactly : Claims.WritesExactly writing_of
WritesExactly =
    record {
      r2 = λ body status old. (short body old (dec_lt (length old) (length body + 2)), λ h. sym (Cases.write_short body (length old) h));
      writes = writes;
      refused = λ body status old n e. kept body status old n (dec_lt (length old) (length body + 2)) e;
    }
  where
    gives : (body old : List ℕ) → length body + 2 ≤ length old → Gives (length body + 2) ≡ write_response_of body (length old)
    gives body old room = Cases.write_room body (length old) (omega arith) (omega arith)

    short : (body old : List ℕ) → Dec (length old < length body + 2) → write_response_of body (length old) ≡ R 2 → length old < length body + 2
    short body old (yes h) e = h
    short body old (no n) e = absurd (r_gives 2 _ (sym (gives body old (omega arith) ∙ e)))

    writes : (body : List ℕ) (status : ℕ) (old : List ℕ) → length body + 2 ≤ length old
        → writing_of body status old ≡ (Gives (length body + 2), spelled body status ++ drop (length body + 2) old)
    writes body status old room =
        pair_is _ _ _ _ (sym (gives body old room))
        (ap (λ (o : Outcome ℕ). response_laid o (response_of body status) old) (sym (gives body old room)) ∙ laid_spelled body status old room)

    kept : (body : List ℕ) (status : ℕ) (old : List ℕ) (n : ℕ) → Dec (length old < length body + 2)
        → write_response_of body (length old) ≡ R n → (writing_of body status old).1 ≡ old
    kept body status old n (yes h) e = ap (λ (o : Outcome ℕ). response_laid o (response_of body status) old) (sym (Cases.write_short body (length old) h))
    kept body status old n (no h) e = absurd (r_gives n _ (sym (gives body old (omega arith) ∙ e)))

pub ReadsExactly : Claims.ReadsExactly read_response_of
ReadsExactly =
    record {
      r2 = λ bytes. (short bytes (dec_lt (length bytes) 2), λ h. sym (Cases.read_under bytes h));
      reads = λ bytes n status. (forth bytes n status (dec_lt (length bytes) 2), back bytes n status);
    }
  where
    gives : (bytes : List ℕ) → 2 ≤ length bytes
        → read_response_of bytes
        ≡ Gives (reading (length (response_body_of bytes)) (byte bytes (length bytes - 2) * 256 + byte bytes (length bytes - 2 + 1)))
    gives bytes some = ap read_response_of (split bytes some) ∙ read_back (response_body_of bytes) _ _

    short : (bytes : List ℕ) → Dec (length bytes < 2) → read_response_of bytes ≡ R 2 → length bytes < 2
    short bytes (yes h) e = h
    short bytes (no n) e = absurd (r_gives 2 _ (sym e ∙ gives bytes (omega arith)))

    forth : (bytes : List ℕ) (n status : ℕ) → Dec (length bytes < 2) → read_response_of bytes ≡ Gives (reading n status)
        → (body : List ℕ) × (length body ≡ n) × IsResponse bytes body status
    forth bytes n status (yes h) e = absurd (r_gives 2 _ (Cases.read_under bytes h ∙ e))
    forth bytes n status (no h) e =
        let same = gives_same _ _ (sym (gives bytes (omega arith)) ∙ e) in
        (response_body_of bytes, ap (λ (r : Response). r.length) same, record { sw1 = _; sw2 = _; are = split bytes (omega arith); is = sym (ap (λ (r : Response). r.status) same) })

    back : (bytes : List ℕ) (n status : ℕ) → (body : List ℕ) × (length body ≡ n) × IsResponse bytes body status → read_response_of bytes ≡ Gives (reading n status)
    back bytes n status (body, long, is) =
        ap read_response_of is.are ∙ read_back body is.sw1 is.sw2 ∙ ap₂ (λ (k s : ℕ). Gives (reading k s)) long (sym is.is)

pub BodyExactly : Claims.BodyExactly response_body_of
BodyExactly = record { before = cut_back; under = λ bytes h. sym (Cases.no_body bytes h) }

pub WrittenThenRead : Claims.WrittenThenRead read_response_of response_body_of writing_of
WrittenThenRead body status old n small e = go (dec_lt (length old) (length body + 2))
  where
    go : Dec (length old < length body + 2)
        → (read_response_of (take n (writing_of body status old).1) ≡ Gives (reading (length body) status))
        × (response_body_of (take n (writing_of body status old).1) ≡ body)
    go (yes h) = absurd (r_gives 2 n (sym ((WritesExactly.r2 body status old).1 h) ∙ e))
    go (no h) =
        let wrote = WritesExactly.writes body status old (omega arith) in
        let long : n ≡ length body + 2 = gives_same _ _ (sym e ∙ ap (λ (o : Outcome ℕ × List ℕ). o.0) wrote) in
        let front : take n (writing_of body status old).1 ≡ spelled body status =
        ap₂ (λ (k : ℕ) (o : Outcome ℕ × List ℕ). take k o.1) long wrote ∙ front_of body status (drop (length body + 2) old) in
        (ap read_response_of front ∙ read_back body _ _ ∙ ap (λ (s : ℕ). Gives (reading (length body) s)) (halves status), ap response_body_of front ∙ cut_back body _ _)

pub ReadThenWritten : Claims.ReadThenWritten read_response_of response_body_of writing_of
ReadThenWritten bytes old n status are e room =
    let found = (ReadsExactly.reads bytes n status).0 e in
    again found.0 found.2
  where
    again : (body : List ℕ) → IsResponse bytes body status → writing_of (response_body_of bytes) status old ≡ (Gives (length bytes), bytes ++ drop (length bytes) old)
    again body is =
        let body_is : response_body_of bytes ≡ body = ap response_body_of is.are ∙ cut_back body _ _ in
        let long : length bytes ≡ length body + 2 = ap length is.are ∙ long_two body _ _ in
        let second : byte bytes (length body + 1) ≡ is.sw2 = ap (λ (l : List ℕ). byte l (length body + 1)) is.are ∙ get_or-append-add body (is.sw1 ∷ is.sw2 ∷ []) 1 0 in
        let small : is.sw2 < 256 = rw second at (are (length body + 1)) in
        let high : status / 256 ≡ is.sw1 = omega (arith, is.is) in
        let low : status % 256 ≡ is.sw2 = omega (arith, is.is) in
        let same : spelled body status ≡ bytes = ap₂ (λ (a b : ℕ). body ++ (a ∷ b ∷ [])) high low ∙ sym is.are in
        ap (λ (l : List ℕ). writing_of l status old) body_is
        ∙ WritesExactly.writes body status old (omega arith)
        ∙ ap₂ (λ (k : ℕ) (l : List ℕ). (Gives k, l ++ drop k old)) (sym long) same

-- ---- how much a frame takes
pub LimitExactly : Claims.LimitExactly limit_of
LimitExactly = record { said = Cases.limit_said; absent = Cases.limit_absent; extended = Cases.limit_extended }

-- the Le of a frame that is read in a short shape
short_le : (frame : List ℕ) (says : Says) (content : List ℕ) → InTable frame says content → says.shape ≤ 4 → says.le ≤ 256
short_le frame says content table h = go table h
  where
    one_byte : {b le : ℕ} → OneByteLe b le → le ≤ 256
    one_byte full = omega arith
    one_byte (plain low high) = omega arith

    go : {f : List ℕ} {s : Says} {c : List ℕ} → InTable f s c → s.shape ≤ 4 → s.le ≤ 256
    go row1 g = omega arith
    go (row2 le) g = one_byte le
    go (row3 low high) g = omega arith
    go (row4 low high le) g = one_byte le
    go (row5 some pair) g = absurd (omega arith)
    go (row7 pair le) g = absurd (omega arith)
    go (row8 le) g = absurd (omega arith)

pub limit_range : (frame : List ℕ) (says : Says) → AreBytes frame → read_of frame ≡ Gives says → says.shape ≤ 4 → (1 ≤ limit_of says) × (limit_of says ≤ 256)
limit_range frame says are e h = go (ℕ_discrete says.le 0)
  where
    most : says.le ≤ 256
    most = let t = (read_exactly frame are says).0 e in short_le frame says t.0 t.1 h

    go : Dec (says.le ≡ 0) → (1 ≤ limit_of says) × (limit_of says ≤ 256)
    go (yes z) = rw (LimitExactly.absent says h z) (omega arith, omega arith)
    go (no n) = rw (LimitExactly.said says h (omega arith)) (omega arith, most)

pub LimitOfFrames : Claims.LimitOfFrames read_of limit_of
LimitOfFrames =
    record {
      most = λ frame says are e. most frame says are e (dec_lt 4 says.shape);
      none = λ frame says are e. (forth frame says are e (dec_lt 4 says.shape), LimitExactly.extended says);
    }
  where
    most : (frame : List ℕ) (says : Says) → AreBytes frame → read_of frame ≡ Gives says → Dec (4 < says.shape) → limit_of says ≤ 256
    most frame says are e (yes h) = rw (LimitExactly.extended says (omega arith)) (omega arith)
    most frame says are e (no n) = (limit_range frame says are e (omega arith)).1

    forth : (frame : List ℕ) (says : Says) → AreBytes frame → read_of frame ≡ Gives says → Dec (4 < says.shape) → limit_of says ≡ 0 → 5 ≤ says.shape
    forth frame says are e (yes h) z = omega arith
    forth frame says are e (no n) z = absurd (omega (arith, (limit_range frame says are e (omega arith)).0))

pub NothingExactly : Claims.NothingExactly (rest 0 0)
NothingExactly = (refl, refl)

-- ---- one part
goes_is : {limit count n : ℕ} → Goes limit count n → n ≡ part_length limit count
goes_is {limit} {count} Goes.whole = Cases.part_whole limit count refl
goes_is {limit} {count} (Goes.cut some h) = Cases.part_cut limit count (λ z. omega arith) h
goes_is {limit} {count} (Goes.last some h) = Cases.part_last limit count (λ z. omega arith) h

pub goes : (limit count : ℕ) → Goes limit count (part_length limit count)
goes limit count = go (Ways.part_way limit count)
  where
    go : {n : ℕ} → Ways.PartWay limit count n → Goes limit count n
    go (Ways.whole z) = rw z Goes.whole
    go (Ways.cut some h) = Goes.cut some h
    go (Ways.last some h) = Goes.last some h

tells_is : {left status : ℕ} → Tells left status → status ≡ left_status left
tells_is nothing_left = Cases.left_none 0 refl
tells_is {left} (some_left some h) = Cases.left_some left (λ z. omega arith) (omega arith)
tells_is {left} (more_left h) = Cases.left_many left (λ z. omega arith) h

pub tells : (left : ℕ) → Tells left (left_status left)
tells left = go (ℕ_discrete left 0) (dec_lt left 256)
  where
    go : Dec (left ≡ 0) → Dec (left < 256) → Tells left (left_status left)
    go (yes z) d = rw (z, ← Cases.left_none 0 refl) nothing_left
    go (no n) (yes h) = rw (← Cases.left_some left n h) (some_left {left = left} (omega arith) (omega arith))
    go (no n) (no h) = rw (← Cases.left_many left n (omega arith)) (more_left {left = left} (omega arith))

pub NextExactly : Claims.NextExactly sending_of
NextExactly =
    record {
      r2 = λ body r limit old. (forth body r limit old, back body r limit old);
      sends = sends;
      refused = λ body r limit old n. kept body r limit old n (Ways.next_way (length body) r limit (length old));
    }
  where
    forth : (body : List ℕ) (r : Remainder) (limit : ℕ) (old : List ℕ) → (sending_of body r limit old).0 ≡ R 2
        → (length body < r.place + r.count) ⊎ ((n : ℕ) × Goes limit r.count n × (length old < n + 2))
    forth body r limit old e = go (Ways.next_way (length body) r limit (length old)) e
      where
        go : {o : Outcome Sent} → Ways.NextWay (length body) r limit (length old) o → o ≡ R 2
            → (length body < r.place + r.count) ⊎ ((n : ℕ) × Goes limit r.count n × (length old < n + 2))
        go (Ways.short_body h) e = inl h
        go (Ways.short_buffer h g) e = inr (part_length limit r.count, goes limit r.count, g)
        go (Ways.given h g) e = absurd (r_gives 2 _ (sym e))

    back : (body : List ℕ) (r : Remainder) (limit : ℕ) (old : List ℕ)
        → (length body < r.place + r.count) ⊎ ((n : ℕ) × Goes limit r.count n × (length old < n + 2)) → (sending_of body r limit old).0 ≡ R 2
    back body r limit old (inl h) = sym (Cases.next_short_body (length body) r limit (length old) h)
    back body r limit old (inr (n, g, h)) = go (dec_lt (length body) (r.place + r.count))
      where
        go : Dec (length body < r.place + r.count) → (sending_of body r limit old).0 ≡ R 2
        go (yes short) = sym (Cases.next_short_body (length body) r limit (length old) short)
        go (no long) = sym (Cases.next_no_room (length body) r limit (length old) (omega arith) (omega (arith, goes_is g)))

    sends : (before part left behind : List ℕ) (limit status : ℕ) (old : List ℕ)
        → Goes limit (length part + length left) (length part) → Tells (length left) status → length part + 2 ≤ length old
        → sending_of (before ++ (part ++ (left ++ behind))) (rest (length before) (length part + length left)) limit old
        ≡ (Gives (sending (length part + 2) (rest (length before + length part) (length left))), spelled part status ++ drop (length part + 2) old)
    sends before part left behind limit status old g t room =
        let body = before ++ (part ++ (left ++ behind)) in
        let r = rest (length before) (length part + length left) in
        let is_n : part_length limit (length part + length left) ≡ length part = sym (goes_is g) in
        let lengths : length body ≡ length before + (length part + (length left + length behind)) =
        length-append before _ ∙ ap (λ (k : ℕ). length before + k) (length-append part _ ∙ ap (λ (k : ℕ). length part + k) (length-append left behind)) in
        let behind_it : length part + length left - part_length limit (length part + length left) ≡ length left = omega arith in
        let part_is : part_bytes body r limit ≡ part =
        ap (λ (k : ℕ). take k (drop (length before) body)) is_n ∙ field_at body before part (left ++ behind) (length before) (length part) refl refl refl in
        let status_is : left_status (rest_after r limit).count ≡ status = ap left_status behind_it ∙ sym (tells_is t) in
        sends_given body r limit old (omega arith) (omega arith)
        ∙ pair_is _ _ _ _
        (ap₂ (λ (k l : ℕ). Gives (sending (k + 2) (rest (length before + k) l))) is_n behind_it)
        (ap₂ (λ (p : List ℕ) (s : ℕ). spelled p s ++ drop (part_length limit (length part + length left) + 2) old) part_is status_is
        ∙ ap (λ (k : ℕ). spelled part status ++ drop (k + 2) old) is_n)

    kept : (body : List ℕ) (r : Remainder) (limit : ℕ) (old : List ℕ) (n : ℕ) {o : Outcome Sent} → Ways.NextWay (length body) r limit (length old) o
        → o ≡ R n → part_laid o (part_response body r limit) old ≡ old
    kept body r limit old n (Ways.short_body h) e = refl
    kept body r limit old n (Ways.short_buffer h g) e = refl
    kept body r limit old n (Ways.given h g) e = absurd (r_gives n _ (sym e))

-- the statuses are apart
module _ (left status : ℕ) (t : Tells left status) where
  tells_done : (status ≡ 0x9000) ↔ (left ≡ 0)
  tells_done = go t
    where
      go : {l s : ℕ} → Tells l s → (s ≡ 0x9000) ↔ (l ≡ 0)
      go nothing_left = (λ e. refl, λ e. refl)
      go (some_left some h) = (λ e. absurd (omega arith), λ e. absurd (omega arith))
      go (more_left h) = (λ e. absurd (omega arith), λ e. absurd (omega arith))

  tells_some : (n : ℕ) → 1 ≤ n → n ≤ 255 → (status ≡ 0x6100 + n) ↔ (left ≡ n)
  tells_some n low high = go t
    where
      go : {l s : ℕ} → Tells l s → (s ≡ 0x6100 + n) ↔ (l ≡ n)
      go nothing_left = (λ e. absurd (omega arith), λ e. absurd (omega arith))
      go (some_left some h) = (λ e. omega arith, λ e. omega arith)
      go (more_left h) = (λ e. absurd (omega arith), λ e. absurd (omega arith))

  tells_many : (status ≡ 0x6100) ↔ (256 ≤ left)
  tells_many = go t
    where
      go : {l s : ℕ} → Tells l s → (s ≡ 0x6100) ↔ (256 ≤ l)
      go nothing_left = (λ e. absurd (omega arith), λ e. absurd (omega arith))
      go (some_left some h) = (λ e. absurd (omega arith), λ e. absurd (omega arith))
      go (more_left h) = (λ e. h, λ e. refl)

pub TellsTheTruth : Claims.TellsTheTruth sending_of
TellsTheTruth =
    record {
      done = λ body r limit old part status left s. tells_done _ _ (told body r limit old part status left s);
      some = λ body r limit old part status left s. tells_some _ _ (told body r limit old part status left s);
      many = λ body r limit old part status left s. tells_many _ _ (told body r limit old part status left s);
      without_part = λ body r limit old part status left s.
          let x = shown body r limit old part status left s in
          let counts : left.count ≡ (rest_after r limit).count = ap (λ (y : Remainder). y.count) x.left_is in
          let places : left.place ≡ (rest_after r limit).place = ap (λ (y : Remainder). y.place) x.left_is in
          (omega (arith, Ways.part_and_rest r limit), omega (arith, Ways.rest_end r limit));
    }
  where
    told : (body : List ℕ) (r : Remainder) (limit : ℕ) (old part : List ℕ) (status : ℕ) (left : Remainder) → Sends (sending_of body r limit old) part status left → Tells left.count status
    told body r limit old part status left s = rw (shown body r limit old part status left s).status_is (tells left.count)

-- what a call says that gave something
pub given_is : (body : List ℕ) (r : Remainder) (limit : ℕ) (old : List ℕ) (n : ℕ) (left : Remainder) → (sending_of body r limit old).0 ≡ Gives (sending n left)
    → (n ≡ part_length limit r.count + 2) × (left.count ≡ (rest_after r limit).count)
given_is body r limit old n left e = go (Ways.next_way (length body) r limit (length old)) e
  where
    go : {o : Outcome Sent} → Ways.NextWay (length body) r limit (length old) o → o ≡ Gives (sending n left)
        → (n ≡ part_length limit r.count + 2) × (left.count ≡ (rest_after r limit).count)
    go (Ways.short_body h) x = absurd (r_gives 2 _ x)
    go (Ways.short_buffer h g) x = absurd (r_gives 2 _ x)
    go (Ways.given h g) x =
        let same = gives_same _ _ x in
        (sym (ap (λ (y : Sent). y.length) same), sym (ap (λ (y : Sent). y.remainder.count) same))

pub PartWithinLe : Claims.PartWithinLe limit_of sending_of
PartWithinLe =
    record {
      said = λ says body r old n left h some e. under (limit_of says) says.le body r old n left (LimitExactly.said says h some) some e;
      absent = λ says body r old n left h z e. under (limit_of says) 256 body r old n left (LimitExactly.absent says h z) (omega arith) e;
      extended = λ says body r old n left h e. all (limit_of says) body r old n left (LimitExactly.extended says h) e;
    }
  where
    under : (limit le : ℕ) (body : List ℕ) (r : Remainder) (old : List ℕ) (n : ℕ) (left : Remainder) → limit ≡ le → 1 ≤ le
        → (sending_of body r limit old).0 ≡ Gives (sending n left) → n ≤ le + 2
    under limit le body r old n left is some e =
        let x = given_is body r limit old n left e in
        omega (arith, Ways.part_limit limit r.count (omega arith))

    all : (limit : ℕ) (body : List ℕ) (r : Remainder) (old : List ℕ) (n : ℕ) (left : Remainder) → limit ≡ 0
        → (sending_of body r limit old).0 ≡ Gives (sending n left) → (n ≡ r.count + 2) × (left.count ≡ 0)
    all limit body r old n left z e =
        let x = given_is body r limit old n left e in
        let whole : r.count ≡ part_length limit r.count = Cases.part_whole limit r.count z in
        (omega arith, omega arith)

-- a frame of four bytes, at 257 bytes of body
reached : (says : Says)
    × (read_of (0x00 ∷ 0x03 ∷ 0x00 ∷ 0x00 ∷ []) ≡ Gives says)
    × ((sending_of (replicate 257 0) (rest 0 257) (limit_of says) (replicate 258 0)).0 ≡ Gives (sending 258 (rest 256 1)))
unfolding read_by say_of lengths_of limit_of next_part_of part_length
reached = (record { header = record { cla = 0x00; ins = 0x03; p1 = 0x00; p2 = 0x00 }; shape = 1; data_at = 4; lc = 0; le = 0 }, refl, refl)

pub LongestIs258 : Claims.LongestIs258 read_of limit_of sending_of
LongestIs258 = record { within = within; reached = reached }
  where
    within : (frame : List ℕ) (says : Says) (body : List ℕ) (r : Remainder) (old : List ℕ) (n : ℕ) (left : Remainder)
        → AreBytes frame → read_of frame ≡ Gives says → says.shape ≤ 4 → (sending_of body r (limit_of says) old).0 ≡ Gives (sending n left) → n ≤ 258
    within frame says body r old n left are e h f =
        let range = limit_range frame says are e h in
        let x = given_is body r (limit_of says) old n left f in
        omega (arith, Ways.part_limit (limit_of says) r.count range.0)

-- ---- the room for a first part
pub RoomExactly : Claims.RoomExactly response_room_of
RoomExactly =
    record {
      said = λ limit longest n g h. sym (Cases.room_said limit longest n (goes_is g) (omega arith));
      unsaid = λ limit longest n g h. sym (Cases.room_unsaid limit longest n (goes_is g) (omega arith));
    }

pub RoomServes : Claims.RoomServes response_room_of sending_of
RoomServes =
    record {
      enough = λ limit longest m n body old said less within room k e.
          let most = Ways.part_monotone limit n longest less in
          let holds = Ways.room_holds limit longest m said in
          r_gives k _ (sym e ∙ sym (Cases.next_given (length body) (rest 0 n) limit (length old) (omega arith) (omega arith)));
      needed = λ limit longest m body old said within short.
          let holds = Ways.room_holds limit longest m said in
          sym (Cases.next_no_room (length body) (rest 0 longest) limit (length old) (omega arith) (omega arith));
    }

-- ---- all parts
pub PartsJoin : Claims.PartsJoin sending_of
PartsJoin =
    record {
      so_far = λ body n fetches h. Walks.joins body (rest 0 n) fetches (omega arith);
      done = λ body n fetches a part left h s. Walks.joined_done body (rest 0 n) fetches a part left (omega arith) s;
    }

pub NumberOfParts : Claims.NumberOfParts sending_of
NumberOfParts =
    record {
      at_most = λ body n fetches h some rooms. Walks.calls_most body n (rest 0 n) fetches (omega arith) (omega arith) some rooms;
      of_none = λ body fetches rooms. Walks.calls_none body fetches rooms;
      nothing_left = λ body n fetches h rooms many. Walks.nothing_left body n (rest 0 n) fetches (omega arith) (omega arith) rooms many;
      exactly = λ body n L k fetches h some up takes many. Walks.calls_exactly body L some k (rest 0 n) fetches (omega arith) up takes many;
    }

-- ---- the contracts
pub AnswersOneToOne : Claims.AnswersOneToOne
AnswersOneToOne = record { read = read_same; wrote = wrote_same; next = next_same; room = room_same }

pub ReadSaidExactly : Claims.ReadSaidExactly response_read
ReadSaidExactly = record { refused = λ a why. (read_same _ _, ap response_read); response = λ a n status. (read_same _ _, ap response_read) }

pub WrittenSaidExactly : Claims.WrittenSaidExactly response_written
WrittenSaidExactly = record { refused = λ a why. (wrote_same _ _, ap response_written); response = λ a n. (wrote_same _ _, ap response_written) }

pub PartSaidExactly : Claims.PartSaidExactly part_sent
PartSaidExactly = record { refused = λ a why. (next_same _ _, ap part_sent); part = λ a n left. (next_same _ _, ap part_sent) }

pub RoomSaidExactly : Claims.RoomSaidExactly room_said
RoomSaidExactly = record { refused = λ a why. (room_same _ _, ap room_said); bytes = λ a n. (room_same _ _, ap room_said) }

-- a function that gives what a definition gives, input by input, is that definition
pub ContractsAsClaimed : Claims.ContractsAsClaimed
ContractsAsClaimed =
    record {
      limit = λ f is g c a. is a ∙ limit_alike g c (says_of a) (dec_lt (says_of a).shape 5) (ℕ_discrete (says_of a).le 0);
      nothing = λ r is. (ap (λ (k : Remainder). k.place) is, ap (λ (k : Remainder). k.count) is);
      write_response = λ f is. subst Claims.WritesExactly (λ d body status old. (sym (is body status old).0 d, sym (is body status old).1 d)) WritesExactly;
      read_response = λ f is. subst Claims.ReadsExactly (λ d bytes. sym (is bytes) d) ReadsExactly;
      response_body = λ f is. subst Claims.BodyExactly (λ d bytes. sym (is bytes) d) BodyExactly;
      next_part = λ f is. subst Claims.NextExactly (λ d body r limit old. (sym (is body r limit old).0 d, sym (is body r limit old).1 d)) NextExactly;
      room = λ f is. subst Claims.RoomExactly (λ d limit longest. sym (is limit longest) d) RoomExactly;
    }
  where
    limit_alike : (g : Says → ℕ) → Claims.LimitExactly g → (says : Says) → Dec (says.shape < 5) → Dec (says.le ≡ 0) → limit_of says ≡ g says
    limit_alike g c says (no m) z = LimitExactly.extended says (omega arith) ∙ sym (c.extended says (omega arith))
    limit_alike g c says (yes h) (yes e) = LimitExactly.absent says (omega arith) e ∙ sym (c.absent says (omega arith) e)
    limit_alike g c says (yes h) (no m) = LimitExactly.said says (omega arith) (omega arith) ∙ sym (c.said says (omega arith) (omega arith))

pub ResultsDetermined : Claims.ResultsDetermined
ResultsDetermined =
    record {
      limit = λ says a b. both_are a b;
      nothing = λ a b. both_are a b;
      write_response = λ body status old a b p q. pair_is _ _ _ _ (wrote_same a.0 b.0 (both_are _ _ p.0 q.0)) (both_are _ _ p.1 q.1);
      read_response = λ bytes a b p q. read_same a b (both_are _ _ p q);
      response_body = λ bytes a b. both_are a b;
      next_part = λ body r limit old a b p q. pair_is _ _ _ _ (next_same a.0 b.0 (both_are _ _ p.0 q.0)) (both_are _ _ p.1 q.1);
      room = λ limit longest a b p q. room_same a b (both_are _ _ p q);
    }
