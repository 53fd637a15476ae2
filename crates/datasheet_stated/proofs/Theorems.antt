-- The claims of specs/Claims.antt, each under its own name.
use Prim.Native.Nat.{ℕ, ◌+◌, ◌-◌, ◌<◌, ◌≤◌}
use mathlib.Core.Path.{◌≡◌, refl, sym, ap, subst, ◌∙◌}
use mathlib.Core.Bool.{Bool, true, false, true≢false}
use mathlib.Core.Logic.{◌↔◌}
use native.Mathlib.Omega.{arith}
use native.Mathlib.Decide.{dec_lt}
use lib.ListN.{length, replicate, length-replicate}
use Rattle.outcome.specs.Outcome.{Gives}
use Rattle.outcome.proofs.Laws.{both_are}
use Rattle.octets.proofs.Laws.{bytes_of}
unfoldable use Rattle.octets.proofs.Laws.{small}
use Rattle.command_stated.specs.Command.{Authenticate}
use Rattle.signing_stated.specs.Layouts.{RegisterFields}
use Rattle.signing_stated.specs.Finishing.{Finishing, Ended, end_of}
use Rattle.signing_stated.specs.Orders.{Order}
use Rattle.signing_stated.specs.Claims.{MakesRegister, RegisterRoomExactly, FinishesExactly}
use Rattle.signing_stated.specs.Terms.{RegisterLengths, IsWhole, IsBlank, register}
use Rattle.signing_stated.proofs.Laws.{finishes_exactly, finishes_only}
use Rattle.session_stated.specs.Terms.{FrameRoom}
use Rattle.session_stated.specs.Claims.{FrameRoomExactly}
use Rattle.datasheet_stated.specs.declared.Figures.{Figures}
use Rattle.datasheet_stated.specs.Words.{Sheet}
use Rattle.std.specs.Prelude.{Err}
use Rattle.datasheet_stated.specs.declared.NoSheet.TheVariants.{TooShort, TooLong}
use Rattle.datasheet_stated.specs.Words.{RoomNeeded}
use Rattle.std.specs.Prelude.{Some, None}
use Rattle.datasheet_stated.specs.Sheet.{longest_room, figures_of, sheet_of, needed_of}
use Rattle.datasheet_stated.specs.Terms.{UpTo, Longest, Least, HasRoom, FinishR2At255, HandleOf, BodyOf, ShortResponse, AnyResponse, CommandOf, HasCertificate}
use Rattle.datasheet_stated.specs.Claims
use Rattle.datasheet_stated.proofs.Cases.{row_short, row_long, row_within, needed_none, needed_room, Way, short, long, within, way, row_is, not_row, long_not_row, short_not_long}
use Rattle.datasheet_stated.proofs.Alike.{rows_alike}
use Rattle.datasheet_stated.proofs.Responses.{short_most, any_most, without_le, says_no_le, reads_no_le, extended_le, takes_no_le, takes_all}
use Rattle.datasheet_stated.proofs.Commands.{command_most, longest_frame, longest_says, longest_taken}
use Rattle.datasheet_stated.proofs.Bodies.{body_most, never_short, full_finish, full_shaped}

-- ---- which buffers have a row
is_short : (n : ℕ) → (sheet_of n ≡ Err TooShort) ↔ (n < 394)
is_short n = (go (way n), λ h. sym (row_short n h))
  where
    go : {s : Sheet} → Way n s → s ≡ Err TooShort → n < 394
    go (short h) e = h
    go (long h g) e = absurd (short_not_long (sym e))
    go (within h g) e = absurd (not_row _ (sym e))

is_long : (n : ℕ) → (sheet_of n ≡ Err TooLong) ↔ (longest_room < n)
is_long n = (go (way n), λ h. sym (row_long n (omega arith) h))
  where
    go : {s : Sheet} → Way n s → s ≡ Err TooLong → longest_room < n
    go (short h) e = absurd (short_not_long e)
    go (long h g) e = g
    go (within h g) e = absurd (long_not_row _ (sym e))

-- a test that is not true is false
not_true : (b : Bool) → (b ≡ true → ⊥) → b ≡ false
not_true true h = absurd (h refl)
not_true false h = refl

not_both : (b : Bool) → b ≡ true → b ≡ false → ⊥
not_both b t f = true≢false (sym t ∙ f)

refused : (has : (room h c : ℕ) → Bool) → RegisterRoomExactly has → (n h c : ℕ) → (has n h c ≡ false) ↔ (n < 139 + h + c)
refused has exact n h c = (
  λ e. by e (dec_lt n (139 + h + c)),
  λ less. not_true (has n h c) (λ t. let enough = (exact n h c).0 t in omega arith),
)
  where
    by : has n h c ≡ false → Dec (n < 139 + h + c) → n < 139 + h + c
    by e (yes less) = less
    by e (no more) = absurd (not_both (has n h c) ((exact n h c).1 (omega arith)) e)

pub HasRow : Claims.HasRow sheet_of
HasRow =
    record {
      too_short = is_short;
      too_long = λ n. (λ e. let h = (is_long n).0 e in omega arith, λ h. (is_long n).1 (omega arith));
      short_is_r2 = λ has exact n. (
        λ e. let h = (is_short n).0 e in (refused has exact n 255 0).1 (omega arith),
        λ e. let h = (refused has exact n 255 0).0 e in (is_short n).1 (omega arith),
      );
      long_is_r2 = λ room exact n. (
        λ e. let h = (is_long n).0 e in (extended_le, (exact.r2 extended_le n).1 (n + 2, takes_all n, omega arith)),
        λ t. let x = (exact.r2 t.0 n).0 t.1 in let most = any_most t.0 n x.0 x.1 in let over = x.2 in (is_long n).1 (omega arith),
      );
      its_own = λ n f e. ap (λ (g : Figures). g.room) (sym (row_is n f e).is);
    }

-- ---- the columns, of the figures of the definition
has_room : (has : (room h c : ℕ) → Bool) → RegisterRoomExactly has → (n : ℕ) → 394 ≤ n → UpTo (HasRoom has n) (n - 394)
has_room has exact n low c = (
  λ h k most. (exact n k c).1 (omega arith),
  λ all. let asked = (exact n 255 c).0 (all 255 (omega arith)) in omega arith,
)

pub CertificateColumn : Claims.CertificateColumn sheet_of
CertificateColumn =
    record {
      up_to = λ has exact n f e. let r = row_is n f e in subst (λ (g : Figures). UpTo (HasRoom has n) g.certificate) r.is (has_room has exact n r.low);
      one_more = λ has exact n f e.
          let r = row_is n f e in
          let low = r.low in
          subst (λ (g : Figures). has n 255 (g.certificate + 1) ≡ false) r.is ((refused has exact n 255 (n - 394 + 1)).1 (omega arith));
    }

finish_as : (finish : Finishing → Ended) → FinishesExactly finish → (i : Finishing) → IsWhole i.order → (finish i).answer ≡ (end_of i).answer
finish_as finish exact i whole = ap (λ (x : Ended). x.answer) (finishes_only finish end_of exact finishes_exactly i whole)

-- one byte more than there is room for, at a handle of 255
one_more_r2 : (finish : Finishing → Ended) → FinishesExactly finish → (n : ℕ) → 394 ≤ n → FinishR2At255 finish n (n - 394 + 1)
one_more_r2 finish exact n low =
    let c = n - 394 + 1 in
    let i = full_finish n c in
    let certificate = length-replicate {A = ℕ} c 0 in
    let reply = length-replicate {A = ℕ} n 0 in
    record {
      r2 = record {
        lent = i;
        whole = refl;
        buffer = reply;
        certificate = refl;
        is_r2 = ap (λ (x : Ended). x.answer) (exact.r2 i _ (register 255 (full_shaped c)) certificate (omega (arith, reply)));
      };
      longest = full_shaped c;
    }

pub FinishColumn : Claims.FinishColumn sheet_of
FinishColumn =
    record {
      never_r2 = λ finish exact n f e c most x.
          let r = row_is n f e in
          let is = ap (λ (g : Figures). g.certificate) r.is in
          never_short x.lent (omega (arith, x.buffer, x.certificate, most, is, r.low)) (sym (finish_as finish exact x.lent x.whole) ∙ x.is_r2);
      one_more = λ finish exact n f e.
          let r = row_is n f e in
          subst (λ (g : Figures). FinishR2At255 finish n (g.certificate + 1)) r.is (one_more_r2 finish exact n r.low);
    }

-- a handle of up to 255 bytes has something to sign, and a longer one fits no order
handles : (make : RegisterFields → ℕ → Order) → MakesRegister make → UpTo (HandleOf make) 255
handles make exact h = (
  λ most. (fields, 0, long, λ blank. omega (arith, exact.counts fields 0 (fits most), blank.counts)),
  λ t. let (of, c, is, made) = t in by of c is made (dec_lt 255 h),
)
  where
    fields : RegisterFields
    fields = record { application = replicate 32 0; challenge = replicate 32 0; handle = replicate h 0; x = replicate 32 0; y = replicate 32 0 }

    long : length fields.handle ≡ h
    long = length-replicate {A = ℕ} h 0

    fits : h ≤ 255 → RegisterLengths fields
    fits most =
        let is = length-replicate {A = ℕ} 32 0 in
        record { application = is; challenge = is; handle = omega (arith, long, most); x = is; y = is }

    by : (of : RegisterFields) (c : ℕ) → length of.handle ≡ h → (IsBlank (make of c) → ⊥) → Dec (255 < h) → h ≤ 255
    by of c is made (yes over) = absurd (made (exact.unfit of c (λ lengths. omega (arith, lengths.handle, is, over))))
    by of c is made (no most) = omega (arith, most)

pub HandleColumn : Claims.HandleColumn sheet_of
HandleColumn make exact n f e = subst (λ (g : Figures). UpTo (HandleOf make) g.handle) (row_is n f e).is (handles make exact)

-- by the definition, since whatever finishes exactly gives what it gives
bodies : (finish : Finishing → Ended) → FinishesExactly finish → (n : ℕ) → 394 ≤ n → Longest (BodyOf finish n) n
bodies finish exact n low =
    let certificate = length-replicate {A = ℕ} (n - 394) 0 in
    let signature = length-replicate {A = ℕ} 72 0 in
    let reply = length-replicate {A = ℕ} n 0 in
    let i = full_finish n (n - 394) in
    let counts : 67 + 255 + length i.certificate + length i.signature ≡ n = omega (arith, certificate, signature) in
    record {
      reached = record {
        lent = i;
        whole = refl;
        buffer = reply;
        gives =
            ap (λ (x : Ended). x.answer) (exact.register_body i 255 refl (full_shaped (n - 394)) certificate (omega (arith, certificate, reply)) refl (omega (arith, signature)))
            ∙ ap Gives counts;
      };
      at_most = λ k b.
          let most = body_most b.lent k (sym (finish_as finish exact b.lent b.whole) ∙ b.gives) in
          omega (arith, most, b.buffer);
    }

pub BodyColumn : Claims.BodyColumn sheet_of
BodyColumn finish exact n f e = let r = row_is n f e in subst (λ (g : Figures). Longest (BodyOf finish n) g.body) r.is (bodies finish exact n r.low)

short_responses : (room : FrameRoom) → FrameRoomExactly room → (n : ℕ) → 394 ≤ n → Longest (ShortResponse room n) 258
unfolding small
short_responses room exact n low =
    record {
      reached = record {
        frame = without_le;
        bytes = bytes_of without_le refl;
        said = says_no_le;
        is_read = reads_no_le;
        short = omega arith;
        longest = n;
        within = omega arith;
        takes = (exact.says without_le n 258).1 (takes_no_le n (omega arith), omega arith);
      };
      at_most = λ m s. short_most s.frame s.said s.longest m s.bytes s.is_read s.short ((exact.says s.frame s.longest m).0 s.takes).0;
    }

pub ShortColumn : Claims.ShortColumn sheet_of
ShortColumn room exact n f e = let r = row_is n f e in subst (λ (g : Figures). Longest (ShortResponse room n) g.short) r.is (short_responses room exact n r.low)

any_responses : (room : FrameRoom) → FrameRoomExactly room → (n : ℕ) → n ≤ longest_room → Longest (AnyResponse room n) (n + 2)
any_responses room exact n high =
    record {
      reached = record { frame = extended_le; longest = n; within = omega arith; takes = (exact.says extended_le n (n + 2)).1 (takes_all n, omega arith) };
      at_most = λ m s. let most = any_most s.frame s.longest m ((exact.says s.frame s.longest m).0 s.takes).0 in omega (arith, most, s.within);
    }

pub ExtendedColumn : Claims.ExtendedColumn sheet_of
ExtendedColumn room exact n f e = let r = row_is n f e in subst (λ (g : Figures). Longest (AnyResponse room n) g.extended) r.is (any_responses room exact n r.high)

pub CommandColumn : Claims.CommandColumn sheet_of
unfolding small
CommandColumn command takes n f e =
    subst (λ (g : Figures). Longest (CommandOf command) g.command) (row_is n f e).is
    (record {
      reached = record { frame = longest_frame; bytes = bytes_of longest_frame refl; which = Authenticate 0x03 longest_says; is_taken = longest_taken command takes; long = refl };
      at_most = λ k c. let most = command_most c.frame c.bytes command takes c.which c.is_taken in omega (arith, most, c.long);
    })

pub SheetExactly : Claims.SheetExactly sheet_of
SheetExactly =
    record {
      has_row = HasRow;
      certificate = CertificateColumn;
      finish = FinishColumn;
      handle = HandleColumn;
      body = BodyColumn;
      short = ShortColumn;
      extended = ExtendedColumn;
      command = CommandColumn;
    }

-- ---- the buffer for a certificate
room_same : (a b : ℕ) → Some a ≡ Some b → a ≡ b
room_same a b e = cc

room_some : (a : ℕ) → None ≡ Some a → ⊥
room_some a e = let z : ◌≡◌ {A = ℕ} 0 1 = cc in omega arith

pub data NeedWay (c : ℕ) : RoomNeeded → Type 0 where
  none : longest_room < c + 394 → NeedWay c None
  some : c + 394 ≤ longest_room → NeedWay c (Some (c + 394))

need_way : (c : ℕ) → NeedWay c (needed_of c)
need_way c = by (dec_lt longest_room (c + 394))
  where
    by : Dec (longest_room < c + 394) → NeedWay c (needed_of c)
    by (yes h) = rw (← needed_none c h) (none h)
    by (no h) = rw (← needed_room c (omega arith)) (some (omega arith))

-- of any sheet that meets the claim
module _ (row : ℕ → Sheet) (exact : Claims.SheetExactly row) (c : ℕ) where
  is_row_lem : (n : ℕ) → row n ≡ sheet_of n
  is_row_lem n = rows_alike row sheet_of exact SheetExactly n

  -- a buffer that holds it has 394 bytes more
  holds_so : (n : ℕ) → HasCertificate row c n → (c + 394 ≤ n) × (n ≤ longest_room)
  holds_so n h =
      let r = row_is n h.figures (sym (is_row_lem n) ∙ h.its_row) in
      let is = ap (λ (g : Figures). g.certificate) r.is in
      (omega (arith, is, h.within, r.low), r.high)

  -- and the one of so many has it
  holds_at : c + 394 ≤ longest_room → HasCertificate row c (c + 394)
  holds_at h = record { figures = figures_of (c + 394); its_row = is_row_lem (c + 394) ∙ sym (row_within (c + 394) (omega arith) h); within = omega arith }

  least_at : c + 394 ≤ longest_room → Least (HasCertificate row c) (c + 394)
  least_at h = record { serves = holds_at h; at_least = λ k x. (holds_so k x).0 }

  room_needed : (n : ℕ) → (needed_of c ≡ Some n) ↔ Least (HasCertificate row c) n
  room_needed n = (forth (need_way c), back (need_way c))
    where
      forth : {o : RoomNeeded} → NeedWay c o → o ≡ Some n → Least (HasCertificate row c) n
      forth (none h) e = absurd (room_some n e)
      forth (some h) e = subst (Least (HasCertificate row c)) (room_same _ _ e) (least_at h)

      back : {o : RoomNeeded} → NeedWay c o → Least (HasCertificate row c) n → o ≡ Some n
      back (none h) l = let so = holds_so n l.serves in absurd (omega (arith, so.0, so.1))
      back (some h) l =
          let low = (holds_so n l.serves).0 in
          let high = l.at_least (c + 394) (holds_at h) in
          ap Some (omega (arith, low, high))

  none_needed : (needed_of c ≡ None) ↔ ((n : ℕ) → HasCertificate row c n → ⊥)
  none_needed = (forth (need_way c), back (need_way c))
    where
      forth : {o : RoomNeeded} → NeedWay c o → o ≡ None → (n : ℕ) → HasCertificate row c n → ⊥
      forth (none h) e n x = let so = holds_so n x in omega (arith, so.0, so.1)
      forth (some h) e n x = room_some _ (sym e)

      back : {o : RoomNeeded} → NeedWay c o → ((n : ℕ) → HasCertificate row c n → ⊥) → o ≡ None
      back (none h) nowhere = refl
      back (some h) nowhere = absurd (nowhere (c + 394) (holds_at h))

pub NeededExactly : Claims.NeededExactly needed_of
NeededExactly = record { room = λ row exact c n. room_needed row exact c n; no_buffer = λ row exact c. none_needed row exact c }

-- ---- a function that gives what a definition gives, input by input, is that definition
pub ContractsAsClaimed : Claims.ContractsAsClaimed
ContractsAsClaimed =
    record {
      row = λ f is. subst Claims.SheetExactly (λ d room. sym (is room) d) SheetExactly;
      needed = λ f is. subst Claims.NeededExactly (λ d certificate. sym (is certificate) d) NeededExactly;
    }

-- ---- two results are equal
pub ResultsDetermined : Claims.ResultsDetermined
ResultsDetermined = record { row = λ room a b. both_are a b; needed = λ certificate a b. both_are a b }
