-- What keeps a report one of its tale: the messages and the fates.
use Rattle.std.proofs.Common.{◌≡◌, ◌⊎◌, ℕ, zero, suc, ◌-◌, ◌<◌, Bool, true, false, ◌||◌, if◌then◌else◌, List, [], ◌∷◌, ◌++◌, Option, Some, IfSome, is_some, option_map, length, slice_index_or, slice_set, inl, inr, refl, sym, ap, ◌∙◌, subst, ⊎_elim, arith}
use Rattle.std.proofs.lemmas.List.{get_or-set_other, get_or-set_same, length-set}
use Rattle.chunk_core.specs.Lists.{IsAmong}
use Rattle.chunk_core.specs.Texts.{Frame}
use Rattle.chunk_core.proofs.Bools.{or_right}
use Rattle.chunk_core.specs.declared.code.How.{How}
use Rattle.chunk_core.specs.declared.code.How.TheVariants as how
use Rattle.interrupt_ctx.specs.declared.view.Interruption.{Interruption}
use Rattle.interrupt_ctx.specs.declared.why.Stop.{Stop}
use Rattle.res_ledger.specs.declared.event.StreamNo.{StreamNo}
use Rattle.run_rules.specs.Facts.{at, is_memory}
use Rattle.join_tale.specs.Ended.{Ended}
use Rattle.join_tale.specs.Ended.Ended.{skipped, unmade as unmade_end}
use Rattle.join_tale.specs.Steps.{ended, ended_late, fated, heeded, learned, outer_ended, unmade}
use Rattle.join_tale.specs.Tales.{Fate, HasCome, IsBegun, IsOpen, Message, Tale, end_of, frames_of, load_of}
use Rattle.join_tale.specs.Tales.Fate.{Begun, Skipped, Unmade}
use Rattle.join_tale.proofs.Parts.{end_before_end, frames_end}
use Rattle.join_tale.proofs.Places.{at_left, at_some, not_both, or_false, some_is}
use Rattle.join_report.specs.Accounts.{AccountsSeen, losing, telling}
use Rattle.join_report.specs.Calls.{after_end, told_how, with_end}
use Rattle.join_report.specs.Reports.{IsAccount, IsReport, has_lost, how_of, wanted_after}
use Rattle.join_report.specs.declared.report.Report.{Report}
use Rattle.join_report.proofs.Agreeing.{Agrees, account_on, agrees_ended, agrees_ended_late, agrees_fated, agrees_lost, agrees_same, lost_back}
use Rattle.join_report.proofs.Coming.{account_ended, account_ended_late, account_fated, account_lost, account_unmade}

pub same_or : (j k : ℕ) → (j ≡ k) ⊎ (j ≡ k → ⊥)
same_or zero zero = inl refl
same_or zero (suc k) = inr (λ e. omega arith)
same_or (suc j) zero = inr (λ e. omega arith)
same_or (suc j) (suc k) = ⊎_elim (λ e. inl (ap (λ n. suc n) e)) (λ n. inr (λ e. n (omega (arith, e)))) (same_or j k)

account_as : (t : Tale) (k : ℕ) (h g : How) (b c : Bool) → g ≡ h → c ≡ b → IsAccount t k h b → IsAccount t k g c
account_as t k h g b c e f i = subst (λ (x : How). IsAccount t k x c) (sym e) (subst (λ (x : Bool). IsAccount t k h x) (sym f) i)

abbrev pub Accounts : ℕ → Tale → AccountsSeen → Type 0
Accounts n t a = (k : ℕ) → k < n → IsAccount t k (slice_index_or a.hows k how.Halted) (slice_index_or a.unwritten k false)

module _ (n : ℕ) (t u : Tale) (a : AccountsSeen) (k : ℕ) (all : Accounts n t a) where
  -- where all agree
  pub accounts_on : ((j : ℕ) → Agrees t u j) → Accounts n u a
  accounts_on agree j l = account_on t u j (agree j) _ _ (all j l)

  module _ (agree : (j : ℕ) → (j ≡ k → ⊥) → Agrees t u j) where
    -- stream k is told anew
    pub accounts_told : (h : How) → length a.hows ≡ n → (k < n → IsAccount u k h (slice_index_or a.unwritten k false)) → Accounts n u (telling a k h)
    accounts_told h len one j l = ⊎_elim
        (λ e. let q : k < length a.hows = omega (arith, e, l, len) in
        subst (λ i. IsAccount u i (slice_index_or (slice_set a.hows k h) i how.Halted) (slice_index_or a.unwritten i false)) (sym e) (account_as u k h _ _ _ (get_or-set_same a.hows k h how.Halted q) refl (one (omega (arith, e, l)))))
        (λ m. account_as u j _ _ _ _ (get_or-set_other a.hows k j h how.Halted m) refl (account_on t u j (agree j m) _ _ (all j l)))
        (same_or j k)

    -- a load of it was lost
    pub accounts_lost : length a.unwritten ≡ n → (k < n → IsAccount u k (slice_index_or a.hows k how.Halted) true) → Accounts n u (losing a k)
    accounts_lost len one j l = ⊎_elim
        (λ e. let q : k < length a.unwritten = omega (arith, e, l, len) in
        subst (λ i. IsAccount u i (slice_index_or a.hows i how.Halted) (slice_index_or (slice_set a.unwritten k true) i false)) (sym e) (account_as u k _ _ _ _ refl (get_or-set_same a.unwritten k true false q) (one (omega (arith, e, l)))))
        (λ m. account_as u j _ _ _ _ refl (get_or-set_other a.unwritten k j true false m) (account_on t u j (agree j m) _ _ (all j l)))
        (same_or j k)

-- what a report notes of an end, beside how the stream is told
pub record NotesEnd (r : Report) (h : How) (s : Report) : Type 0 where
  pub wanted : s.wanted ≡ r.wanted
  pub ceased : s.ceased ≡ (r.ceased || is_memory h)
  pub sink_failed : s.sink_failed ≡ r.sink_failed
  pub memory : s.memory ≡ (r.memory || is_memory h)
  pub streams : s.streams ≡ r.streams

or_none : (b : Bool) → b ≡ (b || false)
or_none true = refl
or_none false = refl

pub notes_end : (r : Report) (h : How) → NotesEnd r h (with_end r h)
notes_end r how.Memory = record { wanted = refl; ceased = sym (or_right r.ceased true refl); sink_failed = refl; memory = sym (or_right r.memory true refl); streams = refl }
notes_end r how.Done = record { wanted = refl; ceased = or_none r.ceased; sink_failed = refl; memory = or_none r.memory; streams = refl }
notes_end r how.Halted = record { wanted = refl; ceased = or_none r.ceased; sink_failed = refl; memory = or_none r.memory; streams = refl }
notes_end r (how.Fault c) = record { wanted = refl; ceased = or_none r.ceased; sink_failed = refl; memory = or_none r.memory; streams = refl }

module _ (most : Option ℕ) (n : ℕ) (t : Tale) (r : Report) (i : IsReport most n t r) where
  -- contexts were set or found set
  pub learns : (vs cs : List Interruption) → IsReport most n (learned t vs cs) r
  learns vs cs = record {
    wanted = i.wanted;
    ceased = i.ceased;
    sink_failed = i.sink_failed;
    memory = i.memory;
    quiet = λ c. record { wanted = (i.quiet c).wanted; late = (i.quiet c).late; memory = (i.quiet c).memory };
    ours = i.ours;
    hows = i.hows;
    unwritten = i.unwritten;
    accounts = accounts_on n t (learned t vs cs) r.streams 0 i.accounts (λ j. agrees_same t (learned t vs cs) j refl refl refl);
  }

  -- streams were halted
  pub heeds : (os : List (StreamNo × Stop)) → IsReport most n (heeded t os) r
  heeds os = record {
    wanted = i.wanted;
    ceased = i.ceased;
    sink_failed = i.sink_failed;
    memory = i.memory;
    quiet = λ c. record { wanted = (i.quiet c).wanted; late = (i.quiet c).late; memory = (i.quiet c).memory };
    ours = i.ours;
    hows = i.hows;
    unwritten = i.unwritten;
    accounts = accounts_on n t (heeded t os) r.streams 0 i.accounts (λ j. agrees_same t (heeded t os) j refl refl refl);
  }

  -- whose turn it was changes nothing
  pub turns : (pulled : List ℕ) (room : ℕ → List ℕ) → IsReport most n (record t { pulled = pulled; room = room }) r
  turns pulled room =
      let u : Tale = record t { pulled = pulled; room = room } in
      record {
        wanted = i.wanted;
        ceased = i.ceased;
        sink_failed = i.sink_failed;
        memory = i.memory;
        quiet = λ c. record { wanted = (i.quiet c).wanted; late = (i.quiet c).late; memory = (i.quiet c).memory };
        ours = i.ours;
        hows = i.hows;
        unwritten = i.unwritten;
        accounts = accounts_on n t u r.streams 0 i.accounts (λ j. agrees_same t u j refl refl refl);
      }

  -- the next stream began or was skipped
  pub fates : (f : Fate) → (f ≡ Unmade → ⊥) → IsReport most n (fated t f) r
  fates f not = record {
    wanted = i.wanted;
    ceased = i.ceased;
    sink_failed = i.sink_failed;
    memory = i.memory;
    quiet = λ c. record { wanted = (i.quiet c).wanted; late = (i.quiet c).late; memory = (i.quiet c).memory };
    ours = λ j c. at_left t.fates (f ∷ []) j Begun (i.ours j c);
    hows = i.hows;
    unwritten = i.unwritten;
    accounts = λ j l. ⊎_elim
        (λ e. subst (λ k. IsAccount (fated t f) k (how_of r k) (has_lost r k)) (sym e) (account_fated t (fated t f) f (how_of r (length t.fates)) (has_lost r (length t.fates)) i.ours (λ c. c) refl refl not (i.accounts (length t.fates) (omega (arith, e, l)))))
        (λ m. account_on t (fated t f) j (agrees_fated t (fated t f) j f refl refl refl m) _ _ (i.accounts j l))
        (same_or j (length t.fates));
  }

  -- there was no memory to make it
  pub misses : IsReport most n (unmade t) (record r { streams = telling r.streams (length t.fates) how.Memory; ceased = true; memory = true })
  misses = record {
    wanted = i.wanted;
    ceased = refl;
    sink_failed = i.sink_failed;
    memory = refl;
    quiet = λ c. absurd (not_both true c refl);
    ours = λ j c. at_left t.fates (Unmade ∷ []) j Begun (i.ours j c);
    hows = length-set r.streams.hows (length t.fates) how.Memory ∙ i.hows;
    unwritten = i.unwritten;
    accounts = accounts_told n t (unmade t) r.streams (length t.fates) i.accounts (λ j m. agrees_fated t (unmade t) j Unmade refl refl refl m) how.Memory i.hows
        (λ l. account_unmade t (unmade t) Unmade _ _ i.ours (λ c. c) refl refl refl (i.accounts (length t.fates) l));
  }

  -- the outer stream ended
  pub ends_outer : (h : How) (s : Report) → NotesEnd r h s → IsReport most n (outer_ended t h) s
  ends_outer h s e = record {
    wanted = e.wanted ∙ i.wanted;
    ceased = e.ceased ∙ ap (λ b. b || is_memory h) i.ceased;
    sink_failed = e.sink_failed ∙ i.sink_failed;
    memory = e.memory ∙ ap (λ b. b || is_memory h) i.memory;
    quiet = λ c. let both = or_false t.ceased (is_memory h) c in let q = i.quiet both.0 in record { wanted = q.wanted; late = q.late; memory = ap (λ b. b || is_memory h) q.memory ∙ both.1 };
    ours = i.ours;
    hows = ap (λ (a : AccountsSeen). length a.hows) e.streams ∙ i.hows;
    unwritten = ap (λ (a : AccountsSeen). length a.unwritten) e.streams ∙ i.unwritten;
    accounts = subst (λ (a : AccountsSeen). Accounts n (outer_ended t h) a) (sym e.streams) (accounts_on n t (outer_ended t h) r.streams 0 i.accounts (λ j. agrees_same t (outer_ended t h) j refl refl refl));
  }

  module _ (k : ℕ) (o : IsOpen t k) where
    -- a load of stream k is left unwritten, and no frame is written behind it
    pub loses : (u : Tale) (s : Report) (x : List ℕ) → u.front ≡ t.front → u.late ≡ t.late ++ load_of k x ∷ [] → u.fates ≡ t.fates → u.ceased ≡ true → s.wanted ≡ r.wanted → s.ceased ≡ true → s.sink_failed ≡ is_some u.cut → s.memory ≡ u.memory → s.streams ≡ losing r.streams k → IsReport most n u s
    loses u s x front late fates over wanted ceased cut memory streams = record {
      wanted = wanted ∙ i.wanted ∙ ap (λ l. option_map (λ m. m - length (frames_of l)) most) (sym front);
      ceased = ceased ∙ sym over;
      sink_failed = cut;
      memory = memory;
      quiet = λ c. absurd (not_both u.ceased c over);
      ours = λ j c. ap (λ (l : List Fate). at l j) fates ∙ i.ours j (lost_back t u j k x front late c);
      hows = ap (λ (a : AccountsSeen). length a.hows) streams ∙ i.hows;
      unwritten = ap (λ (a : AccountsSeen). length a.unwritten) streams ∙ length-set r.streams.unwritten k true ∙ i.unwritten;
      accounts = subst (λ (a : AccountsSeen). Accounts n u a) (sym streams) (accounts_lost n t u r.streams k i.accounts (λ j m. agrees_lost t u j k x front late fates m) i.unwritten
          (λ l. account_lost t u k x _ _ o (lost_back t u k k x front late) late fates (i.accounts k l)));
    }

    come_ours : (h : How) (ms : List Message) (j : ℕ) → ((g : How) → IsAmong (end_of j g) ms → IsBegun t j) → (g : How) → IsAmong (end_of j g) (ms ++ end_of k h ∷ []) → IsBegun t j
    come_ours h ms j old g m = ⊎_elim (λ b. old g b) (λ s. subst (λ l. IsBegun t l) (sym s.0) o.0) (end_before_end j k g h ms m)

    -- its end comes while frames are written
    pub ends_early : (h : How) (s : Report) → t.ceased ≡ false → NotesEnd (record r { streams = telling r.streams k h }) h s → IsReport most n (ended t k h) s
    ends_early h s c e =
        let q = i.quiet c in
        let same : wanted_after most t ≡ wanted_after most (ended t k h) = ap (λ (l : List Frame). option_map (λ m. m - length l) most) (sym (frames_end t.front k h)) in
        record {
          wanted = e.wanted ∙ i.wanted ∙ same;
          ceased = e.ceased ∙ ap (λ b. b || is_memory h) (i.ceased ∙ c);
          sink_failed = e.sink_failed ∙ i.sink_failed;
          memory = e.memory ∙ ap (λ b. b || is_memory h) (i.memory ∙ q.memory);
          quiet = λ z. record { wanted = subst (λ w. IfSome w (λ m. 0 < m)) same q.wanted; late = q.late; memory = z };
          ours = λ j d. ⊎_elim (λ m. come_ours h t.front j (λ g b. i.ours j (g, inl b)) d.0 m) (λ m. i.ours j (d.0, inr m)) d.1;
          hows = ap (λ (a : AccountsSeen). length a.hows) e.streams ∙ length-set r.streams.hows k h ∙ i.hows;
          unwritten = ap (λ (a : AccountsSeen). length a.unwritten) e.streams ∙ i.unwritten;
          accounts = subst (λ (a : AccountsSeen). Accounts n (ended t k h) a) (sym e.streams) (accounts_told n t (ended t k h) r.streams k i.accounts (λ j m. agrees_ended t (ended t k h) j k h refl refl refl m) h i.hows
              (λ l. account_ended t (ended t k h) k h _ _ o refl refl refl (i.accounts k l)));
        }

    -- its end comes later
    pub ends_late : (h : How) (s : Report) → t.ceased ≡ true → NotesEnd (record r { streams = telling r.streams k (told_how true (has_lost r k) h) }) h s → IsReport most n (ended_late t k h) s
    ends_late h s c e = record {
      wanted = e.wanted ∙ i.wanted;
      ceased = e.ceased ∙ ap (λ b. b || is_memory h) (i.ceased ∙ c) ∙ sym c;
      sink_failed = e.sink_failed ∙ i.sink_failed;
      memory = e.memory ∙ ap (λ b. b || is_memory h) i.memory;
      quiet = λ z. absurd (not_both t.ceased z c);
      ours = λ j d. ⊎_elim (λ m. i.ours j (d.0, inl m)) (λ m. come_ours h t.late j (λ g b. i.ours j (g, inr b)) d.0 m) d.1;
      hows = ap (λ (a : AccountsSeen). length a.hows) e.streams ∙ length-set r.streams.hows k (told_how true (has_lost r k) h) ∙ i.hows;
      unwritten = ap (λ (a : AccountsSeen). length a.unwritten) e.streams ∙ i.unwritten;
      accounts = subst (λ (a : AccountsSeen). Accounts n (ended_late t k h) a) (sym e.streams) (accounts_told n t (ended_late t k h) r.streams k i.accounts (λ j m. agrees_ended_late t (ended_late t k h) j k h refl refl refl m) (told_how true (has_lost r k) h) i.hows
          (λ l. account_ended_late t (ended_late t k h) k h _ _ o refl refl (i.accounts k l)));
    }

    ends_by : (h : How) (b : Bool) → t.ceased ≡ b → IsReport most n (if b then ended_late t k h else ended t k h) (with_end (record r { streams = telling r.streams k (told_how b (has_lost r k) h) }) h)
    ends_by h true c = ends_late h _ c (notes_end (record r { streams = telling r.streams k (told_how true (has_lost r k) h) }) h)
    ends_by h false c = ends_early h _ c (notes_end (record r { streams = telling r.streams k h }) h)

    -- its end comes
    pub ends_stream : (h : How) → IsReport most n (after_end t k h) (with_end (record r { streams = telling r.streams k (told_how r.ceased (has_lost r k) h) }) h)
    ends_stream h = subst (λ b. IsReport most n (after_end t k h) (with_end (record r { streams = telling r.streams k (told_how b (has_lost r k) h) }) h)) (sym i.ceased) (ends_by h t.ceased refl)

  ended_as : (k : ℕ) (f : Fate) → at t.fates k ≡ Some f → IsAccount t k (how_of r k) (has_lost r k) → (IsBegun t k → HasCome t k) → Ended t k (how_of r k)
  ended_as k Begun e a all = a.ended (all e)
  ended_as k Unmade e a all = unmade_end e (a.unmade e)
  ended_as k Skipped e a all = skipped e (a.halted (λ c. not_skipped (i.ours k c)) (λ m. let q : Skipped ≡ Unmade = some_is Skipped Unmade (sym e ∙ m) in cc))
    where
      not_skipped : IsBegun t k → ⊥
      not_skipped b = let q : Skipped ≡ Begun = some_is Skipped Begun (sym e ∙ b) in cc

  -- once all ends came each stream ended as it is reported
  pub reports_ends : ((k : ℕ) → IsBegun t k → HasCome t k) → (k : ℕ) → k < n → k < length t.fates → Ended t k (how_of r k)
  reports_ends all k l f = let q = at_some t.fates k f in ended_as k q.0 q.1 (i.accounts k l) (all k)
