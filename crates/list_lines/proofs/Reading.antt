-- How the state of a list goes on.
use Rattle.std.proofs.Common.{◌≡◌, ◌⊎◌, ℕ, ◌+◌, ◌-◌, ◌^◌, ◌<◌, ◌≤◌, true, false, List, [], ◌∷◌, ◌++◌, append-nil, append_assoc, length, map, take, drop, Option, Some, None, Result, Ok, Err, inl, inr, refl, sym, ap, ◌∙◌, subst, ⊎_elim, arith}
use Rattle.std.specs.Prelude.{IfSome, OnErr, OnOk}
use Rattle.std.proofs.lemmas.List.{map-append}
use Rattle.chunk_core.specs.Elements.{Byte, Element, Line}
use Rattle.chunk_core.specs.Feed.{IsSound, Meaning}
use Rattle.chunk_core.specs.Outcomes.{Cut, Done, Fault}
use Rattle.chunk_core.specs.declared.code.Code.{Code}
use Rattle.chunk_core.specs.declared.code.Code.TheVariants as code
use Rattle.chunk_core.specs.declared.code.How.{How}
use Rattle.chunk_core.specs.declared.code.How.TheVariants as how
use Rattle.device_port.specs.Device.{DeviceTold, moved}
use Rattle.pull_nodes.specs.Runs.{FirstBytes, OrLeft, Reads, end_by_fault}
use Rattle.list_lines.specs.declared.lines.ListLines.{ListLines}
use Rattle.list_lines.specs.Lists.{GivesLine, GivesLines, HasRun, HaveCome, IsAt, IsCut, IsInTime, IsLast, IsOver, IsReading, IsUnread, ListRun, TakesIn, lacks, left_to_read}
use Rattle.list_lines.proofs.Runs.{left_there, more_bytes, more_within, runs_so, runs_to_fault}
use Rattle.list_lines.proofs.Timely.{failed_in_time, more_in_time, read_in_time, unread_in_time}

-- what follows where it is Ok, and what always holds
pub ok_then : {E A B : Type 0} (x : Result (Unit {0}) E) → (A → B) → OnOk x A → OnOk x B
ok_then (Ok u) f a = f a
ok_then (Err e) f a = tt

pub err_always : {E A : Type 0} (x : Result (Unit {0}) E) → A → OnErr x A
err_always (Ok u) a = tt
err_always (Err e) a = a

some_is : (a b : How) → Some a ≡ Some b → a ≡ b
some_is a b e = cc

module _ {F : Type 0} where
  -- no line waits, and more may come
  pub lacks_is : (x : ListLines F) → lacks x ≡ true → (x.waiting.items ≡ []) × (x.over ≡ None)
  lacks_is x e = both x.waiting.items x.over e
    where
      both : (ys : List (List ℕ)) (o : Option How) → elim ys [ [] ↦ elim o [ None ↦ true | Some h ↦ false ] | y ∷ zs ↦ false ] ≡ true → (ys ≡ []) × (o ≡ None)
      both [] None e = (refl, refl)
      both [] (Some h) e = cc
      both (y ∷ ys) o e = cc

  pub lacks_so : (x : ListLines F) → x.waiting.items ≡ [] → x.over ≡ None → lacks x ≡ true
  lacks_so x e f = ap (λ (ys : List (List ℕ)). elim ys [ [] ↦ elim x.over [ None ↦ true | Some h ↦ false ] | y ∷ zs ↦ false ]) e ∙ ap (λ (o : Option How). elim o [ None ↦ true | Some h ↦ false ]) f

  pub left_reading : (x : ListLines F) → x.over ≡ None → left_to_read x ≡ 2 ^ 40 + 1 - x.read
  left_reading x e = ap (λ (o : Option How). elim o [ None ↦ 2 ^ 40 + 1 - x.read | Some h ↦ 0 ]) e

  pub left_over : (x : ListLines F) (h : How) → x.over ≡ Some h → left_to_read x ≡ 0
  left_over x h e = ap (λ (o : Option How). elim o [ None ↦ 2 ^ 40 + 1 - x.read | Some h ↦ 0 ]) e

module _ {F : Type 0} (Stands : F → Meaning → List Element → Type 0) where
  pub reading_of : (m : Meaning) (d : DeviceTold) (given : List (List ℕ)) (x : ListLines F) → x.over ≡ None → IsAt Stands m d given x → IsReading Stands m d (given ++ x.waiting.items) x
  reading_of m d given x e h = subst (λ o. HaveCome Stands o m d (given ++ x.waiting.items) x) e h.came

  pub unread_at : (m : Meaning) (d : DeviceTold) (x : ListLines F) → GivesLines m → Stands x.pipe m [] → IsUnread d → x.waiting.items ≡ [] → x.over ≡ None → x.read ≡ 0 → IsAt Stands m d [] x
  unread_at m d x g stands u waits over none = record {
    came = subst (λ o. HaveCome Stands o m d x.waiting.items x) (sym over) (record {
      xs = [];
      first = no_bytes d.content d.at u.at;
      within = no_more d.content d.at u.at;
      stands = stands;
      came = g.nothing ∙ ap (map Line) (sym waits);
      read = none ∙ sym u.at;
      unfailed = u.unfailed;
    });
    in_time = unread_in_time m d g u;
    faults = inl u.unfailed;
    unhalted = λ e. let z : None ≡ Some how.Halted = sym over ∙ e in cc;
  }
    where
      no_bytes : (content : Option (List ℕ)) (at : ℕ) → at ≡ 0 → FirstBytes content at []
      no_bytes None at e = ([], sym e, refl)
      no_bytes (Some c) at e = ap (λ i. map Byte (take i c)) (sym e)

      no_more : (content : Option (List ℕ)) (at : ℕ) → at ≡ 0 → IfSome content (λ c. at ≤ length c)
      no_more None at e = tt
      no_more (Some c) at e = omega (e, arith)

  -- a line that waits is given
  pub give_line : (m : Meaning) (d : DeviceTold) (given : List (List ℕ)) (x y : ListLines F) (line : List ℕ) → y.pipe ≡ x.pipe → y.over ≡ x.over → y.read ≡ x.read → x.waiting.items ≡ line ∷ y.waiting.items → IsAt Stands m d given x → GivesLine Stands m d given y line
  give_line m d given x y line pipe over read waits h = record {
    now = record {
      came = subst (λ o. HaveCome Stands o m d ((given ++ line ∷ []) ++ y.waiting.items) y) (sym over) (by_over x.over (subst (λ l. HaveCome Stands x.over m d l x) same h.came));
      in_time = more_in_time m d given line h.in_time;
      faults = inl fine;
      unhalted = λ e. h.unhalted (sym over ∙ e);
    };
    in_time = h.in_time;
    unfailed = fine;
  }
    where
      same : given ++ x.waiting.items ≡ (given ++ line ∷ []) ++ y.waiting.items
      same = ap (λ l. given ++ l) waits ∙ sym (append_assoc given (line ∷ []) y.waiting.items)

      fine : d.read_faults ≡ 0
      fine = ⊎_elim (λ e. e) (λ e. let z : line ∷ y.waiting.items ≡ [] = sym waits ∙ e.0 in cc) h.faults

      by_over : (o : Option How) → HaveCome Stands o m d ((given ++ line ∷ []) ++ y.waiting.items) x → HaveCome Stands o m d ((given ++ line ∷ []) ++ y.waiting.items) y
      by_over None r = record { xs = r.xs; first = r.first; within = r.within; stands = subst (λ q. Stands q m r.xs) (sym pipe) r.stands; came = r.came; read = read ∙ r.read; unfailed = r.unfailed }
      by_over (Some k) r = r

  -- none waits, and all came
  pub give_over : (m : Meaning) (d : DeviceTold) (given : List (List ℕ)) (x : ListLines F) (k : How) → x.over ≡ Some k → x.waiting.items ≡ [] → IsAt Stands m d given x → IsOver m d given k
  give_over m d given x k over waits h = record {
    run = subst (λ l. HasRun m d l k) (ap (λ l. given ++ l) waits ∙ append-nil given) (subst (λ o. HaveCome Stands o m d (given ++ x.waiting.items) x) over h.came);
    in_time = h.in_time;
    faults = ⊎_elim (λ e. inl e) (λ e. inr (some_is k (how.Fault code.Read) (sym over ∙ e.1))) h.faults;
    unhalted = λ e. h.unhalted (over ∙ ap (λ l. Some l) e);
  }

  module _ (sound : (q : F) → IsSound (Stands q)) (m : Meaning) (g : GivesLines m) (old : DeviceTold) (given : List (List ℕ)) (x : ListLines F) (lack : lacks x ≡ true) (h : IsAt Stands m old given x) where
    pub r : IsReading Stands m old (given ++ x.waiting.items) x
    r = reading_of m old given x (lacks_is x lack).1 h

    -- so much was read at most
    pub up_to_limit : x.read ≤ 2 ^ 40
    up_to_limit = let e = r.read in let f = h.in_time.few in omega (e, f, arith)

    -- there is room for a byte more
    pub below_limit : (x.read ≡ 2 ^ 40 → ⊥) → x.read < 2 ^ 40
    below_limit ne = let e = r.read in let f = h.in_time.few in omega (ne, e, f, arith)

    -- the lines that were given are all that came
    all_given : (m.part r.xs).list ≡ map Line given
    all_given = r.came ∙ ap (map Line) (ap (λ l. given ++ l) (lacks_is x lack).0 ∙ append-nil given)

    fine : (m.part r.xs).fault ≡ None
    fine = sound x.pipe m r.xs r.stands

    -- where all came behind them
    ends_so : (new : DeviceTold) (y : ListLines F) (k : How) → (k ≡ how.Halted → ⊥) → y.over ≡ Some k → HasRun m new (given ++ y.waiting.items) k → IsInTime m new given → (new.read_faults ≡ 0) ⊎ ((y.waiting.items ≡ []) × (y.over ≡ Some (how.Fault code.Read))) → IsAt Stands m new given y
    ends_so new y k unhalted over run in_time faults = record { came = subst (λ o. HaveCome Stands o m new (given ++ y.waiting.items) y) (sym over) run; in_time = in_time; faults = faults; unhalted = λ e. unhalted (some_is k how.Halted (sym over ∙ e)) }

    -- nothing more came
    stops : (new : DeviceTold) (y : ListLines F) (c : Code) → y.waiting.items ≡ [] → y.over ≡ Some (how.Fault c) → Reads new r.xs (Fault c) → IsInTime m new given → (new.read_faults ≡ 0) ⊎ (c ≡ code.Read) → IsAt Stands m new given y
    stops new y c waits over reads in_time faults = ends_so new y (how.Fault c) (λ e. cc) over
        (subst (λ l. ListRun m new (map Line (given ++ l)) (Fault c)) (sym waits)
        (runs_so m new r.xs (Fault c) (Fault c) (map Line (given ++ [])) fine (inl reads) (ap (map Line) (append-nil given) ∙ sym all_given, refl)))
        in_time
        (⊎_elim (λ e. inl e) (λ e. inr (waits, over ∙ ap (λ k. Some (how.Fault k)) e)) faults)

    pub stops_endless : (y : ListLines F) → y.waiting.items ≡ x.waiting.items → y.over ≡ Some (how.Fault code.Endless) → x.read ≡ 2 ^ 40 → IsAt Stands m old given y
    stops_endless y waits over limit = stops old y code.Endless (waits ∙ (lacks_is x lack).0) over
        (r.first, (sym r.read ∙ limit, r.unfailed, whole old.content r.within))
        h.in_time
        (inl r.unfailed)
      where
        whole : (content : Option (List ℕ)) → IfSome content (λ c. old.at ≤ length c) → IfSome content (λ c. 2 ^ 40 ≤ length c)
        whole None w = tt
        whole (Some c) w = let e = r.read in omega (e, limit, w, arith)

    pub stops_failed : (new : DeviceTold) (y : ListLines F) → y.waiting.items ≡ x.waiting.items → y.over ≡ Some (how.Fault code.Read) → new ≡ record old { read_faults = old.read_faults + 1 } → IsAt Stands m new given y
    stops_failed new y waits over told = stops new y code.Read (waits ∙ (lacks_is x lack).0) over
        (subst (λ (d : DeviceTold). Reads d r.xs (Fault code.Read)) (sym told) (r.first, (let e = r.unfailed in let z : old.read_faults + 1 ≡ 1 = omega (e, arith) in z)))
        (failed_in_time m old new (old.read_faults + 1) given told h.in_time)
        (inr refl)

    module _ (new : DeviceTold) (n : ℕ) (buffer : List ℕ) (told : new ≡ moved n old) (fits : n ≤ length buffer) (some : IfSome old.content (λ c. take n buffer ≡ take n (drop old.at c))) (few : n ≤ 4096) (limit : x.read + n ≤ 2 ^ 40) where
      bytes : FirstBytes new.content new.at (r.xs ++ map Byte (take n buffer))
      bytes = subst (λ (d : DeviceTold). FirstBytes d.content d.at (r.xs ++ map Byte (take n buffer))) (sym told) (more_bytes old.content old.at n r.xs buffer r.first fits some)

      in_time : IsInTime m new given
      in_time = read_in_time m old new n r.xs given g r.first all_given few (let e = r.read in omega (e, limit, arith)) told

      unfailed : new.read_faults ≡ 0
      unfailed = ap (λ (d : DeviceTold). d.read_faults) told ∙ r.unfailed

      there : OrLeft (Unit {0}) (Reads new) r.xs Cut
      there = left_there m new r.xs (map Byte (take n buffer)) bytes

      -- memory was wanting
      pub cut_short : IsCut m new given
      cut_short = record { run = runs_so m new r.xs Cut Cut (map Line given) fine there (sym all_given, refl); in_time = in_time; unfailed = unfailed }

      -- the bytes were fed to the pipe
      pub goes_on : (x' y : ListLines F) → x'.read ≡ x.read + n → TakesIn Stands m r.xs (map Byte (take n buffer)) x' y → IsAt Stands m new given y
      goes_on x' y read t = ⊎_elim
          (λ a. record {
            came = subst (λ o. HaveCome Stands o m new (given ++ y.waiting.items) y) (sym a.0) (record {
              xs = r.xs ++ map Byte (take n buffer);
              first = bytes;
              within = subst (λ (d : DeviceTold). IfSome d.content (λ c. d.at ≤ length c)) (sym told) (more_within old.content old.at n buffer r.within fits some);
              stands = a.1;
              came = lines;
              read = t.read ∙ (read ∙ (ap (λ i. i + n) r.read ∙ sym (ap (λ (d : DeviceTold). d.at) told)));
              unfailed = unfailed;
            });
            in_time = in_time;
            faults = inl unfailed;
            unhalted = λ e. let z : None ≡ Some how.Halted = sym a.0 ∙ e in cc;
          })
          (λ a. ends_so new y (how.Fault a.0) (λ e. cc) a.1
          (subst (λ l. ListRun m new l (Fault a.0)) lines (runs_to_fault m new (r.xs ++ map Byte (take n buffer)) a.0 Cut a.2 (inl (bytes, tt))))
          in_time
          (inl unfailed))
          t.now
        where
          lines : (m.part (r.xs ++ map Byte (take n buffer))).list ≡ map Line (given ++ y.waiting.items)
          lines = t.lines ∙ (ap (λ l. l ++ map Line y.waiting.items) all_given ∙ sym (map-append Line given y.waiting.items))

      -- they were those at the front of the buffer
      pub goes_fed : (ys : List ℕ) (x' y : ListLines F) → TakesIn Stands m r.xs (map Byte ys) x' y → x'.read ≡ x.read + n → ys ≡ take n buffer → IsAt Stands m new given y
      goes_fed ys x' y t read same = goes_on x' y read (subst (λ l. TakesIn Stands m r.xs (map Byte l) x' y) same t)

    -- the device has ended, and the pipe was told so
    module _ (new : DeviceTold) (told : new ≡ moved 0 old) (end : IfSome old.content (λ c. length c ≤ old.at)) (below : x.read < 2 ^ 40) where
      same_at : old.at + 0 ≡ old.at
      same_at = omega arith

      whole : Reads new r.xs Done
      whole = subst (λ (d : DeviceTold). Reads d r.xs Done) (sym told) (
        subst (λ i. FirstBytes old.content i r.xs) (sym same_at) r.first,
        (refl, (let e = r.read in omega (e, below, arith)), r.unfailed, all_read old.content r.within end),
      )
        where
          all_read : (content : Option (List ℕ)) → IfSome content (λ c. old.at ≤ length c) → IfSome content (λ c. length c ≤ old.at) → IfSome content (λ c. old.at + 0 ≡ length c)
          all_read None w e = tt
          all_read (Some c) w e = omega (w, e, arith)

      in_time_end : IsInTime m new given
      in_time_end = read_in_time m old new 0 r.xs given g r.first all_given (omega arith) (let e = r.read in omega (e, below, arith)) told

      unfailed_end : new.read_faults ≡ 0
      unfailed_end = ap (λ (d : DeviceTold). d.read_faults) told ∙ r.unfailed

      pub cut_at_end : IsCut m new given
      cut_at_end = record {
        run = runs_so m new r.xs Cut Cut (map Line given) fine (left_there m new r.xs [] (subst (λ l. FirstBytes new.content new.at l) (sym (append-nil r.xs)) whole.0)) (sym all_given, refl);
        in_time = in_time_end;
        unfailed = unfailed_end;
      }

      pub stops_at_end : (y : ListLines F) → IsLast m r.xs y → IsAt Stands m new given y
      stops_at_end y l = by_fault (m.all r.xs).fault refl
        where
          lines : map Line (given ++ y.waiting.items) ≡ (m.all r.xs).list
          lines = map-append Line given y.waiting.items ∙ (ap (λ i. i ++ map Line y.waiting.items) (sym all_given) ∙ sym l.lines)

          by_fault : (o : Option Code) → (m.all r.xs).fault ≡ o → IsAt Stands m new given y
          by_fault None e = ends_so new y how.Done (λ e. cc) (l.over ∙ ap (λ (c : Option Code). Some (elim c [ Some f ↦ how.Fault f | None ↦ how.Done ])) e)
              (runs_so m new r.xs Done Done (map Line (given ++ y.waiting.items)) fine (inl whole) (lines, sym (ap (λ c. end_by_fault c Done) e))) in_time_end (inl unfailed_end)
          by_fault (Some c) e = ends_so new y (how.Fault c) (λ e. cc) (l.over ∙ ap (λ (c : Option Code). Some (elim c [ Some f ↦ how.Fault f | None ↦ how.Done ])) e)
              (runs_so m new r.xs Done (Fault c) (map Line (given ++ y.waiting.items)) fine (inl whole) (lines, sym (ap (λ c. end_by_fault c Done) e))) in_time_end (inl unfailed_end)
