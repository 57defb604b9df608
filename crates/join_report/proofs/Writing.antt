-- A load that came is written, or it is too late.
use Rattle.std.proofs.Common.{◌≡◌, ◌≢◌, ◌⊎◌, ℕ, zero, suc, ◌-◌, ◌<◌, ◌≤◌, Bool, true, false, nat_eq, List, [], ◌∷◌, ◌++◌, Option, Some, None, IfSome, option_map, length, replicate, slice_index_or, inl, inr, refl, sym, ap, ◌∙◌, subst, ⊎_elim, arith}
use Rattle.std.proofs.lemmas.List.{get_or-replicate, length-replicate}
use Rattle.chunk_core.specs.Elements.{Bytes, elements, kind_of, rendering_of}
use Rattle.chunk_core.specs.Texts.{frame_text}
use Rattle.chunk_core.proofs.Bools.{number}
use Rattle.chunk_core.proofs.Members.{among_nil}
use Rattle.chunk_core.specs.declared.code.How.TheVariants as how
use Rattle.chunk_core.specs.declared.load.Load.{Load}
use Rattle.device_port.specs.Sink.{BreaksOff, SinkTold, with_bytes}
use Rattle.interrupt_ctx.specs.declared.why.Why.{Why}
use Rattle.interrupt_ctx.specs.declared.why.Why.TheVariants as why
use Rattle.join_tale.specs.Steps.{dropped, failed, first_tale, lacked, written}
use Rattle.join_tale.specs.Tales.{HasCome, Message, Tale, frames_of, load_of}
use Rattle.join_tale.proofs.Parts.{end_before_load, more_frames}
use Rattle.join_tale.proofs.Places.{none_some, not_both, some_is}
use Rattle.join_report.specs.Accounts.{losing}
use Rattle.join_report.specs.Calls.{Counts, CountsFrom, Writes, WritesLoad, is_zero, with_failure, with_lack}
use Rattle.join_report.specs.Calls.Writes.{late as too_late, some as put_some, last as put_last, sink as broken_off, memory as not_rendered}
use Rattle.join_report.specs.Reports.{IsReport, wanted_after}
use Rattle.join_report.specs.declared.report.Report.{Report}
use Rattle.join_report.proofs.Agreeing.{agrees_written}
use Rattle.join_report.proofs.Steps.{accounts_on, loses}

-- the payload of a load
abbrev text : Load → List ℕ
text load = rendering_of (elements load)

-- a number is at most one, or more
one_or : (m : ℕ) → (m ≤ 1) ⊎ (1 < m)
one_or zero = inl (omega arith)
one_or (suc zero) = inl (omega arith)
one_or (suc (suc m)) = inr (omega arith)

module _ (most : Option ℕ) (n : ℕ) (t : Tale) (r : Report) (i : IsReport most n t r) (k : ℕ) (x : List ℕ) where
  came_before : (j : ℕ) → HasCome (written t k x) j → HasCome t j
  came_before j c = (c.0, ⊎_elim (λ m. inl (end_before_load j k c.0 x t.front m)) (λ m. inr m) c.1)

  -- a frame is written, and so many more may be
  writes_on : (w : Option ℕ) → t.ceased ≡ false → w ≡ wanted_after most (written t k x) → IfSome (wanted_after most (written t k x)) (λ m. 0 < m) → IsReport most n (written t k x) (record r { wanted = w })
  writes_on w c e more = record {
    wanted = e;
    ceased = i.ceased;
    sink_failed = i.sink_failed;
    memory = i.memory;
    quiet = λ z. record { wanted = more; late = (i.quiet z).late; memory = (i.quiet z).memory };
    ours = λ j d. i.ours j (came_before j d);
    hows = i.hows;
    unwritten = i.unwritten;
    accounts = accounts_on n t (written t k x) r.streams 0 i.accounts (λ j. agrees_written t (written t k x) j k x refl refl refl);
  }

  -- the last frame is written
  writes_last : (w : Option ℕ) → w ≡ wanted_after most (written t k x) → IsReport most n (record (written t k x) { ceased = true }) (record r { wanted = w; ceased = true })
  writes_last w e = record {
    wanted = e;
    ceased = refl;
    sink_failed = i.sink_failed;
    memory = i.memory;
    quiet = λ z. absurd (not_both true z refl);
    ours = λ j d. i.ours j (came_before j d);
    hows = i.hows;
    unwritten = i.unwritten;
    accounts = accounts_on n t (record (written t k x) { ceased = true }) r.streams 0 i.accounts (λ j. agrees_written t (record (written t k x) { ceased = true }) j k x refl refl refl);
  }

-- how many are wanted behind one frame more
one_less : (m : ℕ) (t : Tale) (k : ℕ) (x : List ℕ) → m - length (frames_of t.front) - 1 ≡ m - length (frames_of (t.front ++ load_of k x ∷ []))
one_less m t k x = let e = more_frames t.front k x in omega (arith, e)

-- what is to be shown of a load that came
abbrev GoesOn : Option ℕ → ℕ → Tale → ℕ → Load → Report → SinkTold → SinkTold → Option Why → Type 0
GoesOn most n t k load s a b answer = (u : Tale) × Writes most t k load a b answer u × IsReport most n u s

module _ (k : ℕ) (load : Load) (r s : Report) (a b : SinkTold) (answer : Option Why) (put : b ≡ with_bytes a (frame_text k (text load))) where
  counts_none : (n : ℕ) (t : Tale) → IsReport None n t r → t.ceased ≡ false → (s ≡ r) × (answer ≡ None) → GoesOn None n t k load s a b answer
  counts_none n t i c z = (
    written t k (text load),
    subst (λ q. Writes None t k load a b q (written t k (text load))) (sym z.1) (put_some c (λ e. none_some e) put),
    subst (λ q. IsReport None n (written t k (text load)) q) (sym z.0) (writes_on None n t r i k (text load) r.wanted c i.wanted tt),
  )

  counts_some : (m n : ℕ) (t : Tale) → IsReport (Some m) n t r → t.ceased ≡ false → CountsFrom (Some (m - length (frames_of t.front))) r s answer → (0 < m - length (frames_of t.front)) → GoesOn (Some m) n t k load s a b answer
  counts_some m n t i c z pos = ⊎_elim
      (λ (le : m - length (frames_of t.front) ≤ 1).
      let d = z.0 le in
      let met : m ≡ suc (length (frames_of t.front)) = omega (arith, le, pos) in (
        record (written t k (text load)) { ceased = true },
        subst (λ q. Writes (Some m) t k load a b q (record (written t k (text load)) { ceased = true })) (sym d.1) (put_last c (ap (λ q. Some q) met) put),
        subst (λ q. IsReport (Some m) n (record (written t k (text load)) { ceased = true }) q) (sym d.0) (writes_last (Some m) n t r i k (text load) (Some (m - length (frames_of t.front) - 1)) (ap (λ q. Some q) (one_less m t k (text load)))),
      ))
      (λ (lt : 1 < m - length (frames_of t.front)).
      let d = z.1 lt in
      let e = more_frames t.front k (text load) in
      let more : 0 < m - length (frames_of (t.front ++ load_of k (text load) ∷ [])) = omega (arith, e, lt) in (
        written t k (text load),
        subst (λ q. Writes (Some m) t k load a b q (written t k (text load))) (sym d.1) (put_some c (λ q. let w : m ≡ suc (length (frames_of t.front)) = some_is _ _ q in omega (arith, w, lt)) put),
        subst (λ q. IsReport (Some m) n (written t k (text load)) q) (sym d.0) (writes_on (Some m) n t r i k (text load) (Some (m - length (frames_of t.front) - 1)) c (ap (λ q. Some q) (one_less m t k (text load))) more),
      ))
      (one_or (m - length (frames_of t.front)))

  counts_by : (most : Option ℕ) (n : ℕ) (t : Tale) → IsReport most n t r → t.ceased ≡ false → CountsFrom (wanted_after most t) r s answer → IfSome (wanted_after most t) (λ m. 0 < m) → GoesOn most n t k load s a b answer
  counts_by None n t i c z more = counts_none n t i c z
  counts_by (Some m) n t i c z more = counts_some m n t i c z more

  -- it was written, and is counted
  pub load_counts : r.ceased ≡ false → Counts r s answer → WritesLoad k load r s a b answer
  load_counts f z most n t i o =
      let c : t.ceased ≡ false = sym i.ceased ∙ f in
      counts_by most n t i c (subst (λ w. CountsFrom w r s answer) i.wanted z) (i.quiet c).wanted

module _ (k : ℕ) (load : Load) (r s : Report) (a b : SinkTold) where
  -- it comes too late
  pub load_drops : r.ceased ≡ true → s ≡ record r { streams = losing r.streams k } → b ≡ a → WritesLoad k load r s a b None
  load_drops f e same most n t i o =
      let c : t.ceased ≡ true = sym i.ceased ∙ f in (
        dropped t k (text load),
        too_late c same,
        subst (λ q. IsReport most n (dropped t k (text load)) q) (sym e) (loses most n t r i k o (dropped t k (text load)) (record r { streams = losing r.streams k }) (text load) refl refl refl c refl f i.sink_failed i.memory refl),
      )

  first_late : (t : Tale) → t.late ≡ [] → load_of k (text load) ∷ [] ≡ t.late ++ load_of k (text load) ∷ []
  first_late t e = ap (λ (l : List Message). l ++ load_of k (text load) ∷ []) (sym e)

  -- its write fails
  pub load_fails : r.ceased ≡ false → s ≡ with_failure r k → BreaksOff a b (frame_text k (text load)) → WritesLoad k load r s a b (Some why.Sink)
  load_fails f e broken most n t i o =
      let c : t.ceased ≡ false = sym i.ceased ∙ f in (
        failed t k (text load),
        broken_off c broken,
        subst (λ q. IsReport most n (failed t k (text load)) q) (sym e) (loses most n t r i k o (failed t k (text load)) (with_failure r k) (text load) refl (first_late t (i.quiet c).late) refl refl refl refl refl i.memory refl),
      )

  -- there is no memory to render it
  pub load_lacks : r.ceased ≡ false → s ≡ with_lack r k → b ≡ a → kind_of load ≢ Bytes → WritesLoad k load r s a b (Some why.Memory)
  load_lacks f e same kind most n t i o =
      let c : t.ceased ≡ false = sym i.ceased ∙ f in (
        lacked t k (text load),
        not_rendered c same kind,
        subst (λ q. IsReport most n (lacked t k (text load)) q) (sym e) (loses most n t r i k o (lacked t k (text load)) (with_lack r k) (text load) refl (first_late t (i.quiet c).late) refl refl refl refl i.sink_failed refl refl),
      )

-- the tale that begins so
abbrev start : Bool → Tale
start b = record first_tale { ceased = b }

nothing_came : (b : Bool) (j : ℕ) → HasCome (start b) j → ⊥
nothing_came b j c = ⊎_elim (λ m. among_nil m) (λ m. among_nil m) c.1

wanted_first : (most : Option ℕ) → most ≡ option_map (λ m. m - 0) most
wanted_first None = refl
wanted_first (Some m) = ap (λ q. Some q) (omega arith)

quiet_first : (most : Option ℕ) → is_zero most ≡ false → IfSome (option_map (λ m. m - 0) most) (λ m. 0 < m)
quiet_first None e = tt
quiet_first (Some zero) e = absurd (not_both true e refl)
quiet_first (Some (suc m)) e = omega arith

is_false : (b : Bool) → (b ≡ true → ⊥) → b ≡ false
is_false true n = absurd (n refl)
is_false false n = refl

zero_some : (o : Option ℕ) → (o ≡ Some 0 → ⊥) → is_zero o ≡ false
zero_some None e = refl
zero_some (Some m) e = is_false (nat_eq m 0) (λ z. e (ap (λ q. Some q) (number m 0 z)))

module _ (most : Option ℕ) (n : ℕ) (r : Report) (wanted : r.wanted ≡ most) (ceased : r.ceased ≡ is_zero most) (sink : r.sink_failed ≡ false) (memory : r.memory ≡ false) (hows : r.streams.hows ≡ replicate n how.Halted) (unwritten : r.streams.unwritten ≡ replicate n false) where
  starts_as : (b : Bool) → is_zero most ≡ b → IsReport most n (start b) r
  starts_as b z = record {
    wanted = wanted ∙ wanted_first most;
    ceased = ceased ∙ z;
    sink_failed = sink;
    memory = memory;
    quiet = λ e. record { wanted = quiet_first most (z ∙ e); late = refl; memory = refl };
    ours = λ j c. absurd (nothing_came b j c);
    hows = ap length hows ∙ length-replicate n how.Halted;
    unwritten = ap length unwritten ∙ length-replicate n false;
    accounts = λ k l. record {
      ended = λ c. absurd (nothing_came b k c);
      unmade = λ e. absurd (none_some e);
      halted = λ c e. ap (λ xs. slice_index_or xs k how.Halted) hows ∙ get_or-replicate n k how.Halted how.Halted l;
      lost = ap (λ xs. slice_index_or xs k false) unwritten ∙ get_or-replicate n k false false l;
    };
  }

  -- before the first message, where a frame may be written
  pub starts : (most ≡ Some 0 → ⊥) → IsReport most n first_tale r
  starts e = starts_as false (zero_some most e)

  -- and where none may
  pub starts_met : most ≡ Some 0 → IsReport most n (record first_tale { ceased = true }) r
  starts_met e = starts_as true (ap is_zero e)
