-- The turn of a read.
use Rattle.std.proofs.Common.{◌≡◌, ◌⊎◌, true, inl, inr, ℕ, zero, suc, ◌+◌, ◌-◌, ◌^◌, ◌<◌, ◌≤◌, List, ◌++◌, [], ◌∷◌, length, take, drop, map, refl, sym, ◌∙◌, ap, subst, arith, length-append, Option, None, Some, IfSome}
use Rattle.std.proofs.lemmas.List.{length-take, length-drop, length-map, take-append-drop, take-take, drop-take, drop-drop, drop_all, map-append}
use Rattle.std.proofs.lemmas.Bool.Decides.{eqb_tells}
use Rattle.chunk_core.specs.declared.code.Code.TheVariants as code
use Rattle.chunk_core.specs.Elements.{Element, Byte, elements}
use Rattle.chunk_core.specs.Outcomes.{Cut, Done, Fault}
use Rattle.device_port.specs.Device.{DeviceTold, Place}
use Rattle.pull_nodes.specs.Runs.{FirstBytes, Reads}
use Rattle.pull_turns.specs.Around.{Around, KeepsBut, StaysWell}
use Rattle.chunk_core.specs.Elements.LoadKind.{Bytes}
use Rattle.chunk_core.specs.Elements.{kind_of, LoadKind}
use Rattle.chunk_core.specs.declared.load.Load.{Load}
use Rattle.chunk_core.specs.declared.load.Load.TheVariants as load
use Rattle.pull_turns.specs.Piping.{StateMeaning}
use Rattle.pull_turns.specs.Rest.{BytesFrom, IsHeldBy, IsReady, ReadsFrom}
use Rattle.pull_turns.specs.Moves.{IsPiece, ReadsPiece, ReadsPlace}
use Rattle.pull_turns.specs.Turned.{Leads, IsLoadOrDone, Turned, Moved, HasCause, Gave, GivesKind, GoesOn, TurnIsCaused}
use Rattle.pull_turns.specs.declared.rest.Rest.TheVariants.{Read}
use Rattle.pull_turns.specs.declared.turn.Turn.{Turn}
use Rattle.pull_turns.specs.declared.turn.Turn.TheVariants as turn
use Rattle.pull_turns.proofs.Kept.{all_spared}
use Rattle.pull_turns.proofs.Leads.{HasRun, by_left}
use Rattle.pull_turns.proofs.Unwritten.{stays_well}
use Rattle.pull_turns.proofs.Turns.{moved_place, by_three, chunk_goes_on, done_is_no_fault, cause_none}

-- a list of so many numbers
some_list : (n : ℕ) → (bytes : List ℕ) × (length bytes ≡ n)
some_list zero = ([], refl)
some_list (suc n) = let more = some_list n in (0 ∷ more.0, omega (arith, more.1))

some_bytes : (o : Option (List ℕ)) (from n : ℕ) → from ≤ n → (ys : List Element) × BytesFrom o from n ys
some_bytes None from n le = let more = some_list (n - from) in (map Byte more.0, (more.0, omega (arith, more.1, le), refl))
some_bytes (Some c) from n le = (map Byte (drop from (take n c)), refl)

-- it may be left where it stands
pub some_run : (d : DeviceTold) (from : ℕ) → from ≤ d.at → HasRun (ReadsFrom from d)
some_run d from le = let some = some_bytes d.content from d.at le in (some.0, Cut, (some.1, tt))

drop_none : (xs : List ℕ) → drop 0 xs ≡ xs
drop_none [] = refl
drop_none (x ∷ xs) = refl

from_start : (o : Option (List ℕ)) (n : ℕ) (ys : List Element) → BytesFrom o 0 n ys → FirstBytes o n ys
from_start None n ys h = (h.0, omega (arith, h.1), h.2)
from_start (Some c) n ys h = h ∙ ap (λ xs. map Byte xs) (drop_none (take n c))

pub reads_start : (d : DeviceTold) → Leads [] (ReadsFrom 0 d) (Reads d)
reads_start d = record { gives = λ ys e h. (from_start d.content d.at ys h.0, h.1) }

-- a piece of what a list has from a place on
cut : (c : List ℕ) (from m : ℕ) → drop from c ≡ take m (drop from c) ++ drop (from + m) c
cut c from m = sym (take-append-drop m (drop from c)) ∙ ap (λ xs. take m (drop from c) ++ xs) (drop-drop m from c)

cut_all : (c : List ℕ) (from to : ℕ) (bytes : List ℕ) → to ≡ from + length bytes → bytes ≡ take (length bytes) (drop from c) → map Byte (drop from c) ≡ map Byte bytes ++ map Byte (drop to c)
cut_all c from to bytes t x =
    let parts : drop from c ≡ bytes ++ drop to c = cut c from (length bytes) ∙ (ap (λ xs. xs ++ drop (from + length bytes) c) (sym x) ∙ ap (λ n. bytes ++ drop n c) (sym t)) in
    ap (λ xs. map Byte xs) parts ∙ map-append Byte bytes (drop to c)

-- a front of the content has the same piece
same_piece : (c : List ℕ) (k from m : ℕ) → from + m ≤ k → take m (drop from (take k c)) ≡ take m (drop from c)
same_piece c k from m le =
    let e : k ≡ from + (k - from) = omega arith in
    let i : m ≤ k - from = omega arith in
    ap (λ n. take m (drop from (take n c))) e ∙ (ap (take m) (drop-take from (k - from) c) ∙ take-take m (k - from) (drop from c) i)

cut_front : (c : List ℕ) (k from to : ℕ) (bytes : List ℕ) → to ≡ from + length bytes → to ≤ k → bytes ≡ take (length bytes) (drop from c)
    → map Byte (drop from (take k c)) ≡ map Byte bytes ++ map Byte (drop to (take k c))
cut_front c k from to bytes t le x = cut_all (take k c) from to bytes t (x ∙ sym (same_piece c k from (length bytes) (omega (arith, t, le))))

joined : (bytes more : List ℕ) (ys : List Element) → ys ≡ map Byte more → map Byte bytes ++ ys ≡ map Byte (bytes ++ more)
joined bytes more ys e = ap (λ zs. map Byte bytes ++ zs) e ∙ sym (map-append Byte bytes more)

behind : (bytes : List ℕ) (xs ys zs : List Element) → ys ≡ xs → zs ≡ map Byte bytes ++ xs → map Byte bytes ++ ys ≡ zs
behind bytes xs ys zs e f = ap (λ us. map Byte bytes ++ us) e ∙ sym f

bytes_lead : (o : Option (List ℕ)) (n from to : ℕ) (bytes : List ℕ) → to ≡ from + length bytes → to ≤ n → IsPiece o from bytes → (ys : List Element) → BytesFrom o to n ys → BytesFrom o from n (map Byte bytes ++ ys)
bytes_lead None n from to bytes t l p ys h = (bytes ++ h.0, omega (arith, t, h.1, length-append bytes h.0), joined bytes h.0 ys h.2)
bytes_lead (Some c) n from to bytes t l p ys h = behind bytes _ ys _ h (cut_front c n from to bytes t l p)

reads_lead : (d : DeviceTold) (from to : ℕ) (bytes : List ℕ) → to ≡ from + length bytes → to ≤ d.at → IsPiece d.content from bytes → Leads (map Byte bytes) (ReadsFrom to d) (ReadsFrom from d)
reads_lead d from to bytes t l p = record { gives = λ ys e h. (bytes_lead d.content d.at from to bytes t l p ys h.0, h.1) }

-- a piece is no longer than what is left
piece_fits : (o : Option (List ℕ)) (from to : ℕ) (bytes : List ℕ) → 0 < length bytes → to ≡ from + length bytes → IsPiece o from bytes → IfSome o (λ c. to ≤ length c)
piece_fits None from to bytes pos t p = tt
piece_fits (Some c) from to bytes pos t p = omega (arith, ap length p, length-take (length bytes) (drop from c), length-drop from c)

no_bytes : (o : Option (List ℕ)) (from n : ℕ) → n ≡ from → BytesFrom o from n []
no_bytes None from n at = ([], omega (arith, at), refl)
no_bytes (Some c) from n at =
    let le : length (take n c) ≤ from = omega (arith, at, length-take n c) in
    sym (ap (λ xs. map Byte xs) (drop_all from (take n c) le))

-- a place that is not before the end and not behind it
just_at : (o : Option (List ℕ)) (from n : ℕ) → n ≡ from → IfSome o (λ c. length c ≤ from) → IfSome o (λ c. from ≤ length c) → IfSome o (λ c. n ≡ length c)
just_at None from n at h i = tt
just_at (Some c) from n at h i = omega (arith, at, h, i)

far_enough : (o : Option (List ℕ)) (from : ℕ) → from ≡ 2 ^ 40 → IfSome o (λ c. from ≤ length c) → IfSome o (λ c. 2 ^ 40 ≤ length c)
far_enough None from at h = tt
far_enough (Some c) from at h = omega (arith, at, h)

done_reads : (d : DeviceTold) (from : ℕ) → d.at ≡ from → from < 2 ^ 40 → d.ended ≡ true → d.read_faults ≡ 0 → IfSome d.content (λ c. length c ≤ from) → IfSome d.content (λ c. from ≤ length c) → ReadsFrom from d [] Done
done_reads d from at m ended faults h i = (no_bytes d.content from d.at at, (ended, omega (arith, at, m), faults, just_at d.content from d.at at h i))

endless_reads : (d : DeviceTold) (from : ℕ) → d.at ≡ from → from ≡ 2 ^ 40 → d.read_faults ≡ 0 → IfSome d.content (λ c. from ≤ length c) → ReadsFrom from d [] (Fault code.Endless)
endless_reads d from at m faults h = (no_bytes d.content from d.at at, (at ∙ m, faults, far_enough d.content from m h))

fault_reads : (d : DeviceTold) (from : ℕ) → d.at ≡ from → d.read_faults ≡ 1 → ReadsFrom from d [] (Fault code.Read)
fault_reads d from at faults = (no_bytes d.content from d.at at, faults)

endless_is_no_open : turn.Fault code.Endless ≡ turn.Fault code.Open → ⊥
endless_is_no_open e = cc

endless_is_no_read : turn.Fault code.Endless ≡ turn.Fault code.Read → ⊥
endless_is_no_read e = cc

endless_is_no_write : turn.Fault code.Endless ≡ turn.Fault code.Write → ⊥
endless_is_no_write e = cc

read_is_no_write : turn.Fault code.Read ≡ turn.Fault code.Write → ⊥
read_is_no_write e = cc

read_is_no_open : turn.Fault code.Read ≡ turn.Fault code.Open → ⊥
read_is_no_open e = cc

pub read_moved : {F : Type 0} (a b : Around) (p from : ℕ) → ReadsPlace a b p → Moved {F = F} a b (Read p from)
read_moved a b p from h = moved_place a b p (Read p from) refl h.keeps (record { content = h.content; place = h.place; at = h.later; within = h.within; opens = λ o. (h.opens ∙ o, h.open_faults) })

-- the scope that holds the device holds it on
pub read_held : (a b : Around) (s p : ℕ) → KeepsBut a p b → a.opened s → ((k : ℕ) → a.holds p k → b.holds p k) → IsHeldBy a s p → IsHeldBy b s p
read_held a b s p keeps open' still (k, is_open, within, held) = (k, (keeps.stays k (all_spared a k is_open)).opened, ((keeps.stays s (all_spared a s open')).within k).1 within, still k held)

-- a load of some bytes is of the kind of bytes
bytes_kind : (l : Load) (bytes : List ℕ) → elements l ≡ map Byte bytes → 0 < length bytes → Bytes ≡ kind_of l
bytes_kind (load.Bytes b) bytes e h = refl
bytes_kind (load.Lines []) (x ∷ bytes) e h = (cc)
bytes_kind (load.Lines (l ∷ ls)) (x ∷ bytes) e h = (cc)
bytes_kind (load.Rows []) (x ∷ bytes) e h = (cc)
bytes_kind (load.Rows (l ∷ ls)) (x ∷ bytes) e h = (cc)
bytes_kind (load.Lines ls) [] e h = absurd (omega (arith, h))
bytes_kind (load.Rows ls) [] e h = absurd (omega (arith, h))

module _ {F : Type 0} (P : StateMeaning F) where
  -- all but the outcome
  read_turned : (a b : Around) (s n p from to : ℕ) (t : Turn) → ReadsPlace a b p → (IsLoadOrDone t → (b.told p).read_faults ≡ (a.told p).read_faults)
      → ((((b.told p).at ≤ (a.told p).at + n) × ((b.told p).read_faults ≡ (a.told p).read_faults)) ⊎ (((b.told p).at ≡ (a.told p).at) × ((b.told p).read_faults ≡ (a.told p).read_faults + 1)))
      → (GoesOn t → IsReady {F = F} b s (Read p to)) → ((k : LoadKind) → k ≡ Bytes → GivesKind P k (Read p to) t) → (GoesOn t → TurnIsCaused P a.told b.told (Read p from) (Read p to))
      → HasCause {F = F} a.told b.told (Read p from) t → Gave P b.told (Read p from) (Read p to) t
      → Turned P a b s n (Read p from) (Read p to) t
  read_turned a b s n p from to t h well read ready kinds caused cause gave = record {
    moved = read_moved a b p from h;
    once = record { place = p; others = λ q m. (ap (λ (d : DeviceTold). d.at) (h.keeps.told q m), ap (λ (d : DeviceTold). d.read_faults) (h.keeps.told q m)); read = read };
    writes = λ i q. elim (eqb_tells q p) [
      | inl m ↦ subst (λ r. StaysWell (a.told r) (b.told r)) (sym m.1) (h.written, h.write_faults, well i, h.open_faults)
      | inr m ↦ stays_well (a.told q) (b.told q) (h.keeps.told q m.1)
    ];
    live = λ q i. i;
    fewer = omega arith;
    spends = record { events = omega (arith, h.affords.events); scopes = omega (arith, h.affords.scopes); rows = omega (arith, h.affords.rows) };
    ready = ready;
    scopes = λ g c i. absurd i;
    pipes = λ g. tt;
    kinds = kinds;
    caused = by_three P a.told b.told (Read p from) (Read p to) t caused;
    cause = cause;
    gave = gave;
  }

  pub read_step : (a b : Around) (s n p from to : ℕ) (t : Turn) → a.opened s → IsReady {F = F} a s (Read p from) → ReadsPiece a b n p from to t → Turned P a b s n (Read p from) (Read p to) t
  read_step a b s n p from to (turn.Chunk l) open' r h =
      let bytes = h.piece.0 in
      let piece : IsPiece (b.told p).content from bytes = subst (λ o. IsPiece o from bytes) (sym h.place.content) h.piece.8 in
      let some : 0 < length (elements l) = omega (arith, ap length h.piece.1, length-map bytes Byte, h.piece.2) in
      read_turned a b s n p from to (turn.Chunk l) h.place (λ i. h.piece.7)
      (inl (omega (arith, r.0, h.piece.6, h.piece.4, h.piece.3), h.piece.7))
      (λ g. (h.piece.6, h.piece.7 ∙ r.1, h.piece.5, piece_fits (b.told p).content from to bytes h.piece.2 h.piece.4 piece, read_held a b s p h.place.keeps open' h.piece.9 r.4, ap (λ (x : Place). x.mode) h.place.place ∙ r.5))
      (λ k e. (sym (bytes_kind l bytes h.piece.1 h.piece.2) ∙ sym e, e))
      (λ g. inr (inl (p, refl, omega (arith, r.0, h.piece.6, h.piece.4, h.piece.2))))
      (cause_none a.told b.told (Read p from) (turn.Chunk l) (chunk_goes_on l)) (
        some,
        λ w e.
            let mine : IsPiece (w p).content from bytes = subst (λ o. IsPiece o from bytes) (sym (e.goes p).content) piece in
            let far : to ≤ (w p).at = omega (arith, (e.goes p).at, h.piece.6) in
            rw h.piece.1 (by_left (reads_lead (w p) from to bytes h.piece.4 far mine) (λ i. some_run (w p) to far)),
      )
  read_step a b s n p from to turn.Quiet open' r h = absurd h.piece
  read_step a b s n p from to turn.Done open' r h =
      read_turned a b s n p from to turn.Done h.place (λ i. h.piece.3)
      (inl (omega (arith, r.0, h.piece.2), h.piece.3))
      (λ g. absurd g) (λ k e. tt) (λ g. absurd g)
      (cause_none a.told b.told (Read p from) turn.Done done_is_no_fault)
      (λ w o.
      let is = o.over p refl in
      let same : (w p).content ≡ (a.told p).content = (o.goes p).content ∙ h.place.content in
      inl (done_reads (w p) from (ap (λ (d : DeviceTold). d.at) is ∙ h.piece.2) h.piece.1 (ap (λ (d : DeviceTold). d.ended) is ∙ h.piece.5) (ap (λ (d : DeviceTold). d.read_faults) is ∙ (h.piece.3 ∙ r.1))
      (subst (λ c. IfSome c (λ d. length d ≤ from)) (sym same) h.piece.4) (subst (λ c. IfSome c (λ d. from ≤ length d)) (sym same) r.3)))
  read_step a b s n p from to (turn.Fault code.Endless) open' r h =
      read_turned a b s n p from to (turn.Fault code.Endless) h.place (λ i. absurd i)
      (inl (omega (arith, r.0, h.piece.2), h.piece.3))
      (λ g. absurd g) (λ k e. tt) (λ g. absurd g)
      (record { open_fault = λ e. absurd (endless_is_no_open e); read_fault = λ e. absurd (endless_is_no_read e); write_fault = λ e. absurd (endless_is_no_write e) })
      (λ w o.
      let long : IfSome (w p).content (λ c. from ≤ length c) = subst (λ c. IfSome c (λ d. from ≤ length d)) (sym ((o.goes p).content ∙ h.place.content)) r.3 in
      let is = o.over p refl in
      inl (endless_reads (w p) from (ap (λ (d : DeviceTold). d.at) is ∙ h.piece.2) (omega (arith, r.2, h.piece.1)) (ap (λ (d : DeviceTold). d.read_faults) is ∙ (h.piece.3 ∙ r.1)) long))
  read_step a b s n p from to (turn.Fault code.Read) open' r h =
      read_turned a b s n p from to (turn.Fault code.Read) h.place (λ i. absurd i)
      (inr (h.piece.1 ∙ sym r.0, h.piece.2))
      (λ g. absurd g) (λ k e. tt) (λ g. absurd g)
      (record { open_fault = λ e. absurd (read_is_no_open e); read_fault = λ e. (p, refl, omega (arith, h.piece.2)); write_fault = λ e. absurd (read_is_no_write e) })
      (λ w o.
      let is = o.over p refl in
      let once : (w p).read_faults ≡ 1 = omega (arith, ap (λ (d : DeviceTold). d.read_faults) is, h.piece.2, r.1) in
      inl (fault_reads (w p) from (ap (λ (d : DeviceTold). d.at) is ∙ h.piece.1) once))
  read_step a b s n p from to (turn.Fault c) open' r h = absurd h.piece
