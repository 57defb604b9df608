-- A rotation after a write to its last file, and after a read.
use Rattle.std.proofs.Common.{◌≡◌, ◌≢◌, ℕ, zero, suc, ◌+◌, ◌-◌, ◌*◌, ◌^◌, ◌<◌, ◌≤◌, Bool, true, false, cond, nat_eq, List, [], ◌∷◌, ◌++◌, length, take, drop, Option, Some, None, option_map, Result, Ok, Err, refl, sym, ap, ◌∙◌, subst, ⊎_elim, inl, arith, append-nil, append_assoc, length-append, length-drop}
use Rattle.std.proofs.lemmas.Bool.{ne_eqb}
use Rattle.std.proofs.lemmas.List.{drop-append-le, take-append-le, take-append-drop, length-take}
use Rattle.std.proofs.Math.Nat.{mul-le-mul_right}
use Rattle.chunk_core.specs.declared.code.Exit.TheVariants.{Succeeded}
use Rattle.pull_stepper.specs.Held.{closed_as}
use Rattle.chunk_core.specs.Lists.{IsAmong}
use Rattle.chunk_core.specs.Lists.IsAmong.{here, there}
use Rattle.chunk_core.proofs.Bools.{itself}
use Rattle.chunk_core.proofs.Members.{among_cons, among_nil}
use Rattle.device_port.specs.declared.Failed.{Failed}
use Rattle.device_port.specs.Device.{DeviceTold, with_written}
use Rattle.device_port.specs.Depot.{DepotTold, Files}
use Rattle.row_seat.specs.Views.{HasRow, paid, with_row}
use Rattle.scope_tree.specs.declared.branch.Spent.{Spent}
use Rattle.scope_tree.specs.Calls.{Seen}
use Rattle.scope_tree.specs.Trace.{owed}
use Rattle.tree_laws.specs.Called.Called.{written}
use Rattle.tree_laws.proofs.Alone.{alone_then}
use Rattle.hot_swap.specs.declared.swap.Held.{Held}
use Rattle.rotate_rules.specs.Pieces.{IsFront, piece_of}
use Rattle.rotate_files.specs.Acts.{IsWritable, WritesRow}
use Rattle.rotate_files.specs.declared.stop.Stop.{Stop}
use Rattle.rotate_files.specs.declared.stop.Stop.TheVariants as stop
use Rattle.rotate_files.specs.Rotating.{AreFinished, HasLast, IsInStep, IsRotating, last_piece}
use Rattle.rotate_files.specs.Stops.{StopsWithin}
use Rattle.rotate_files.specs.Told.{file_told}
use Rattle.rotate_files.proofs.Swapping.{the_last}

-- Pieces of more bytes.

take_all : (k : ℕ) (xs : List ℕ) → length xs ≤ k → take k xs ≡ xs
take_all zero [] l = refl
take_all zero (x ∷ xs) l = absurd (omega arith)
take_all (suc k) [] l = refl
take_all (suc k) (x ∷ xs) l = ap (λ ys. x ∷ ys) (take_all k xs (omega arith))

-- a whole piece stays
pub piece_keeps : (n j : ℕ) (given more : List ℕ) → suc j * n ≤ length given → piece_of n (given ++ more) j ≡ piece_of n given j
piece_keeps n j given more l =
    let k : j * n ≤ length given = omega (arith, l) in
    let s = length-drop (j * n) given in
    let t : n ≤ length (drop (j * n) given) = omega (arith, s, l) in
    ap (λ (xs : List ℕ). take n xs) (drop-append-le (j * n) given more k) ∙ take-append-le n (drop (j * n) given) more t

-- the last piece grows
pub piece_grows : (n i : ℕ) (given more : List ℕ) → i * n ≤ length given → length given + length more ≤ suc i * n → piece_of n (given ++ more) i ≡ piece_of n given i ++ more
piece_grows n i given more l m =
    let s = length-drop (i * n) given in
    let p = length-append (drop (i * n) given) more in
    let t : length (drop (i * n) given) ≤ n = omega (arith, s, l, m) in
    let u : length (drop (i * n) given ++ more) ≤ n = omega (arith, s, p, l, m) in
    ap (λ (xs : List ℕ). take n xs) (drop-append-le (i * n) given more l) ∙ (take_all n (drop (i * n) given ++ more) u ∙ ap (λ xs. xs ++ more) (sym (take_all n (drop (i * n) given) t)))

behind : (fs : Option Files) (w x : List ℕ) → option_map (λ y. y ++ x) (option_map (λ (f : Files). w) fs) ≡ option_map (λ (f : Files). w ++ x) fs
behind None w x = refl
behind (Some f) w x = refl

-- more is written to a file
pub told_more : (old : DepotTold) (prefix : List ℕ) (i : ℕ) (w x : List ℕ) (f : ℕ) → with_written (file_told old prefix i w f) x ≡ file_told old prefix i (w ++ x) f
told_more old prefix i w x f = ap (λ b. let d : DeviceTold = record (file_told old prefix i w f) { written = b } in d) (behind old.files w x)

module _ {V : Type 0} (told : V → DeviceTold) (old : DepotTold) (prefix : List ℕ) (n : ℕ) where
  pub finished_keeps : (given more : List ℕ) (i : ℕ) (xs : List (Spent V)) → (i + length xs) * n ≤ length given → AreFinished told old prefix n given i xs → AreFinished told old prefix n (given ++ more) i xs
  finished_keeps given more i [] l f = tt
  finished_keeps given more i (x ∷ xs) l f =
      let up : suc i ≤ i + suc (length xs) = omega arith in
      let more_rows = mul-le-mul_right n up in
      let one : suc i * n ≤ length given = omega (arith, l, more_rows) in
      let same : suc i + length xs ≡ i + suc (length xs) = omega arith in (
        f.0,
        f.1,
        f.2 ∙ ap (λ b. closed_as Succeeded x.ok (file_told old prefix i b 0)) (sym (piece_keeps n i given more one)),
        finished_keeps given more (suc i) xs (subst (λ k. k * n ≤ length given) (sym same) l) f.3,
      )

  -- how many rows are open
  abbrev open_count : ℕ → ℕ
  open_count zero = 1
  open_count (suc i) = 2

  has_count : (a : Seen V) (h : Option Held) (files : ℕ) (w : List ℕ) (f : ℕ) (src : V) → HasLast told old prefix n a h files w f src → length a.seat.opened ≡ open_count files
  has_count a h zero w f src l = ap length l.1
  has_count a h (suc i) w f src l = ap length l.4

  module _ (a : Seen V) (h : Option Held) (files : ℕ) (given w : List ℕ) (f : ℕ) (src : V) (q : IsRotating told old prefix n a h files given w f src) where
    -- another payload in an open row
    pub repaid : (b : Seen V) (r : ℕ) (after : V) → HasRow a.seat.opened r → b ≡ record a { seat = paid a.seat r after } → (given' w' : List ℕ) (f' : ℕ) (src' : V)
        → (let c : Seen V = record a { seat = paid a.seat r after } in HasLast told old prefix n c h files w' f' src') → AreFinished told old prefix n given' 0 a.shelf → IsRotating told old prefix n b h files given' w' f' src'
    repaid b r after has is given' w' f' src' last done =
        let c : Seen V = record a { seat = paid a.seat r after } in
        let i = q.holding in
        let same : length c.seat.opened ≡ length a.seat.opened = has_count c h files w' f' src' last ∙ sym (has_count a h files w f src q.last) in
        let room = q.free in
        subst (λ x. IsRotating told old prefix n x h files given' w' f' src') (sym is) (record {
          first = q.first;
          start = q.start;
          others = q.others;
          named = q.named;
          bare = q.bare;
          calls = written a c r after q.calls has refl;
          alone = alone_then q.first.seat a.seat c.seat q.alone (record { by = refl; main = refl; pairs = refl; kept = refl; had = refl; out = refl; events = λ e m. inl m });
          holding = record { flat = i.flat; root = i.root; shut = i.shut; held = i.held; last = i.last; known = i.known; row = i.row };
          swaps = q.swaps;
          noted = q.noted;
          swapped = q.swapped;
          last = last;
          finished = done;
          empty = q.empty;
          opens = q.opens;
          used = q.used;
          scopes = q.scopes;
          rows = q.rows;
          free = omega (arith, room, same);
          few = q.few;
        })

    -- the file that is read is there, and is the only one in row 0
    pub source_row : HasRow a.seat.opened 0
    source_row = by files q.last
      where
        by : (k : ℕ) → HasLast told old prefix n a h k w f src → HasRow a.seat.opened 0
        by zero l = (src, subst (λ xs. IsAmong (0, src) xs) (sym l.1) (here []))
        by (suc i) l = (src, subst (λ xs. IsAmong (0, src) xs) (sym l.4) (here ((suc i, l.1) ∷ [])))

    pub source_is : (d : V) → IsAmong (0, d) a.seat.opened → d ≡ src
    source_is d m = by files q.last
      where
        pair : (x y : V) → (let p : ℕ × V = (0, x) in let s : ℕ × V = (0, y) in p ≡ s) → x ≡ y
        pair x y e = ap (λ (z : ℕ × V). z.1) e

        by : (k : ℕ) → HasLast told old prefix n a h k w f src → d ≡ src
        by zero l = ⊎_elim (λ e. pair d src e) (λ z. absurd (among_nil z)) (among_cons (subst (λ xs. IsAmong (0, d) xs) l.1 m))
        by (suc i) l = ⊎_elim (λ e. pair d src e) (λ z. ⊎_elim (λ e. let x : 0 ≡ suc i = ap (λ (y : ℕ × V). y.0) e in absurd (omega arith)) (λ y. absurd (among_nil y)) (among_cons z)) (among_cons (subst (λ xs. IsAmong (0, d) xs) l.4 m))

    -- another device stands for it
    pub source_last : (after : V) → let c : Seen V = record a { seat = paid a.seat 0 after } in HasLast told old prefix n c h files w f after
    source_last after = by files q.last
      where
        by : (k : ℕ) → HasLast told old prefix n a h k w f src → let c : Seen V = record a { seat = paid a.seat 0 after } in HasLast told old prefix n c h k w f after
        by zero l = (l.0, ap (with_row 0 after) l.1, l.2)
        by (suc i) l = (l.0, l.1, l.2, l.3, ap (with_row 0 after) l.4, l.5, l.6)

  module _ (path : List ℕ) (a : Seen V) (h : Option Held) (now : DepotTold) (i left : ℕ) (given : List ℕ) (src : V) (q : IsInStep told old prefix n path a h now (suc i) left given src) where
    abbrev piece : List ℕ
    piece = piece_of n given i

    last : HasLast told old prefix n a h (suc i) piece 0 src
    last = q.rotating.last

    pub last_row : HasRow a.seat.opened (suc i)
    last_row = let x : ℕ × V = (0, src) in (last.1, subst (λ xs. IsAmong (suc i, last.1) xs) (sym last.4) (there x (here [])))

    pub last_is : (d : V) → IsAmong (suc i, d) a.seat.opened → told d ≡ file_told old prefix i piece 0
    last_is d m = ap told (the_last i src last.1 d [] (λ p z. among_nil z) (subst (λ xs. IsAmong (suc i, d) xs) last.4 m)) ∙ last.5

    pub last_writable : (d : V) → IsAmong (suc i, d) a.seat.opened → IsWritable (told d)
    last_writable d m = subst IsWritable (sym (last_is d m)) (record { is_open = refl; mode = refl; room = omega arith })

    last_with : (after : V) (w : List ℕ) (f : ℕ) → told after ≡ file_told old prefix i w f → let c : Seen V = record a { seat = paid a.seat (suc i) after } in HasLast told old prefix n c h (suc i) w f src
    last_with after w f t =
        let x : ℕ × V = (0, src) in
        let y : ℕ × V = (suc i, last.1) in
        let z : ℕ × V = (suc i, after) in
        (last.0, after, last.2, last.3, ap (with_row (suc i) after) last.4 ∙ (ap (λ b. cond b ((0, after) ∷ y ∷ []) (x ∷ with_row (suc i) after (y ∷ []))) (ne_eqb 0 (suc i) (λ e. absurd (omega arith))) ∙ ap (λ b. x ∷ cond b (z ∷ []) (y ∷ [])) (itself (suc i))), t, last.6)

    -- the piece begins where the one before ended
    begun : i * n ≤ length given
    begun = let c = q.count in let l = q.fits in omega (arith, c, l)

    more_finished : (more : List ℕ) → AreFinished told old prefix n (given ++ more) 0 a.shelf
    more_finished more = let s = last.6 in let e : 0 + length a.shelf ≡ i = omega arith in finished_keeps given more 0 a.shelf (subst (λ k. k * n ≤ length given) (sym e) begun) q.rotating.finished

    -- bytes that it takes were written
    pub wrote : {T : Type 0} (u : T) (b : Seen V) (k : Option Held) (bytes : List ℕ) → length bytes ≤ left → WritesRow told (suc i) a b bytes (Ok u) → k ≡ h → IsInStep told old prefix n path b k now (suc i) (left - length bytes) (given ++ bytes) src
    wrote u b k bytes l w same =
        let c = q.count in
        let size = length-append given bytes in
        let told_after : told w.after ≡ file_told old prefix i (piece ++ bytes) 0 = w.wrote ∙ (ap (λ d. with_written d bytes) (last_is w.before w.held) ∙ told_more old prefix i piece bytes 0) in
        let grown : piece_of n (given ++ bytes) i ≡ piece ++ bytes = piece_grows n i given bytes begun (omega (arith, c, l)) in
        subst (λ o. IsInStep told old prefix n path b o now (suc i) (left - length bytes) (given ++ bytes) src) (sym same) (record {
          rotating = repaid a h (suc i) given piece 0 src q.rotating b (suc i) w.after last_row w.tree (given ++ bytes) (piece_of n (given ++ bytes) i) 0 src (last_with w.after (piece_of n (given ++ bytes) i) 0 (told_after ∙ ap (λ x. file_told old prefix i x 0) (sym grown))) (more_finished bytes);
          made = q.made;
          count = omega (arith, c, size, l);
          fits = let f = q.fits in omega (arith, f);
        })

    -- a write failed
    pub broke : (T : Type 0) (z : Failed) (b : Seen V) (k : Option Held) (bytes rest : List ℕ) → 0 < length bytes → length bytes ≤ left → WritesRow told {T = T} (suc i) a b bytes (Err z) → k ≡ h → StopsWithin told old prefix n path b k now given (bytes ++ rest) src stop.Unwritten
    broke T z b k bytes rest some l w same =
        let c = q.count in
        let size = length-append given bytes in
        let front = take w.wrote.count bytes in
        let behind_it = drop w.wrote.count bytes in
        let told_after : told w.after ≡ file_told old prefix i (piece ++ front) 1 = w.wrote.told ∙ (ap (λ (d : DeviceTold). let e : DeviceTold = record (with_written d front) { write_faults = d.write_faults + 1 } in e) (last_is w.before w.held) ∙ ap (λ (d : DeviceTold). let e : DeviceTold = record d { write_faults = 1 } in e) (told_more old prefix i piece front 0)) in
        let grown : piece_of n (given ++ bytes) i ≡ piece ++ bytes = piece_grows n i given bytes begun (omega (arith, c, l)) in
        subst (λ o. StopsWithin told old prefix n path b o now given (bytes ++ rest) src stop.Unwritten) (sym same) (record {
          taken = bytes;
          rest = rest;
          bytes_are = refl;
          some = λ e. cc;
          stops = (
            i,
            record {
              written = piece ++ front;
              rotating = repaid a h (suc i) given piece 0 src q.rotating b (suc i) w.after last_row w.tree (given ++ bytes) (piece ++ front) 1 src (last_with w.after (piece ++ front) 1 told_after) (more_finished bytes);
              made = q.made;
              front = (behind_it, grown ∙ (ap (λ xs. piece ++ xs) (sym (take-append-drop w.wrote.count bytes)) ∙ sym (append_assoc piece front behind_it)));
              some = let s = begun in omega (arith, s, size, some);
              most = omega (arith, c, size, l);
            },
          );
        })

  module _ (path : List ℕ) (a : Seen V) (h : Option Held) (now : DepotTold) (left : ℕ) (given : List ℕ) (src : V) (some : 1 ≤ left) where
    -- a file that takes more is there
    no_file : IsInStep told old prefix n path a h now 0 left given src → ⊥
    no_file q = let c = q.count in omega (arith, c)

    pub any_row : (files : ℕ) → IsInStep told old prefix n path a h now files left given src → HasRow a.seat.opened files
    any_row zero q = absurd (no_file q)
    any_row (suc i) q = last_row path a h now i left given src q

    pub any_writable : (files : ℕ) → IsInStep told old prefix n path a h now files left given src → (d : V) → IsAmong (files, d) a.seat.opened → IsWritable (told d)
    any_writable zero q d m = absurd (no_file q)
    any_writable (suc i) q d m = last_writable path a h now i left given src q d m

    pub any_wrote : {T : Type 0} (files : ℕ) (u : T) (b : Seen V) (k : Option Held) (bytes : List ℕ) (size : ℕ) → size ≡ length bytes → length bytes ≤ left → IsInStep told old prefix n path a h now files left given src → WritesRow told files a b bytes (Ok u) → k ≡ h
        → IsInStep told old prefix n path b k now files (left - size) (given ++ bytes) src
    any_wrote zero u b k bytes size is l q w same = absurd (no_file q)
    any_wrote (suc i) u b k bytes size is l q w same = subst (λ z. IsInStep told old prefix n path b k now (suc i) (left - z) (given ++ bytes) src) (sym is) (wrote path a h now i left given src q u b k bytes l w same)

    pub any_broke : (T : Type 0) (files : ℕ) (z : Failed) (b : Seen V) (k : Option Held) (piece : List ℕ) (size : ℕ) → 0 < length (take size piece) → length (take size piece) ≤ left → IsInStep told old prefix n path a h now files left given src → WritesRow told {T = T} files a b (take size piece) (Err z) → k ≡ h
        → StopsWithin told old prefix n path b k now given piece src stop.Unwritten
    any_broke T zero z b k piece size s l q w same = absurd (no_file q)
    any_broke T (suc i) z b k bytes size s l q w same =
        subst (λ xs. StopsWithin told old prefix n path b k now given xs src stop.Unwritten) (take-append-drop size bytes) (broke path a h now i left given src q T z b k (take size bytes) (drop size bytes) s l w same)
