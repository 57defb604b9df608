-- The Close that covers a scope.
use Rattle.std.proofs.Common.{◌≡◌, ◌+◌, ◌<◌, ℕ, Bool, true, ◌&&◌, List, [], ◌∷◌, ◌++◌, length, length-append, refl, sym, ap, ◌∙◌, subst, ⊎_elim, append_assoc, append-nil, arith}
use Rattle.chunk_core.specs.Lists.{IsAmong, has}
use Rattle.std.specs.List.{list_any as any}
use Rattle.chunk_core.specs.Lists.IsAmong.{here}
use Rattle.chunk_core.proofs.Members.{among_snoc, among_nil, among_mid}
use Rattle.chunk_core.specs.declared.code.Exit.{Exit}
use Rattle.res_ledger.specs.declared.event.StreamNo.{StreamNo}
use Rattle.res_ledger.specs.declared.event.What.TheVariants.{Close}
use Rattle.res_ledger.specs.declared.event.Event.{Event}
use Rattle.res_ledger.specs.Ledger.{Notes, NotesClose, LiesWithin, IsClosed, IsRowClosed, IsLegal}
use Rattle.res_ledger.specs.Own.{own, closes_of, ancestors}
use Rattle.res_ledger.specs.Streams.{same_stream}
use Rattle.ledger_text.specs.Closing.{IsCoveringClose, ClosedHasCoveringClose, CoveringCloseIsOne, FinalsFollowCoveringClose}
use Rattle.res_ledger.proofs.Tests.{name, named}
use Rattle.chunk_core.proofs.Bools.{both, no, and_true, tested, any_at, any_found}
use Rattle.res_ledger.proofs.Noted.{closes_shape}
use Rattle.res_ledger.proofs.Scopes.{above_within, within_above}
use Rattle.res_ledger.proofs.Prefixes.{front_notes, front_within, split_append, row_scope_closed}

-- the event closes s or a scope above it
abbrev closes_above : List Event → StreamNo → ℕ → Event → Bool
closes_above L k s e = same_stream e.by k && any (λ a. has a (ancestors (own k L) s)) (closes_of e.what)

closing_event : (L P Q : List Event) (e : Event) (k : StreamNo) (s : ℕ) → L ≡ P ++ e ∷ Q → ((a : ℕ) → LiesWithin L k s a → ¬ (NotesClose P k a)) → closes_above L k s e ≡ true → IsCoveringClose L k s P
closing_event L P Q e k s q n h =
    let b = both (same_stream e.by k) (any (λ a. has a (ancestors (own k L) s)) (closes_of e.what)) h in
    let f = any_found (λ a. has a (ancestors (own k L) s)) (closes_of e.what) b.1 in
    let c = closes_shape e.what f.0 f.1 in
    record { rest = Q; event = e; scope = f.0; exit = c.0; stands = q; by = name e.by k b.0; closes = c.1; above = above_within L k s f.0 f.2; first = n }

closes_found : (L : List Event) → IsLegal L → (e : Event) (k : StreamNo) (s a : ℕ) (x : Exit) → LiesWithin L k s a → e.by ≡ k → e.what ≡ Close a x → closes_above L k s e ≡ true
closes_found L l e k s a x w b c =
    and_true (same_stream e.by k) (any (λ a. has a (ancestors (own k L) s)) (closes_of e.what)) (subst (λ x. same_stream x k ≡ true) (sym b) (named k))
    (any_at (λ a. has a (ancestors (own k L) s)) a (closes_of e.what) (subst (λ x. IsAmong a (closes_of x)) (sym c) (here [])) (within_above L l k s a w))

still_none : (L : List Event) → IsLegal L → (P : List Event) (e : Event) (k : StreamNo) (s : ℕ) → ((a : ℕ) → LiesWithin L k s a → ¬ (NotesClose P k a)) → (closes_above L k s e ≡ true → ⊥) → (a : ℕ) → LiesWithin L k s a → ¬ (NotesClose (P ++ e ∷ []) k a)
still_none L l P e k s n t a w m = ⊎_elim
    (λ i. n a w (m.0, (m.1.0, i, m.1.2, m.1.3)))
    (λ q. t (closes_found L l e k s a m.0 w (ap (λ x. x.by) (sym q) ∙ m.1.2) (ap (λ x. x.what) (sym q) ∙ m.1.3)))
    (among_snoc P m.1.0 e m.1.1)

covering_from : (L : List Event) → IsLegal L → (k : StreamNo) (s : ℕ) (P Q : List Event) → L ≡ P ++ Q → ((a : ℕ) → LiesWithin L k s a → ¬ (NotesClose P k a)) → IsClosed L k s → (C : List Event) × IsCoveringClose L k s C
covering_from L l k s P [] q n c = absurd (n c.0 c.1 (subst (λ x. NotesClose x k c.0) (q ∙ append-nil P) c.2))
covering_from L l k s P (e ∷ Q) q n c = ⊎_elim
    (λ h. (P, closing_event L P Q e k s q n h))
    (λ h. covering_from L l k s (P ++ e ∷ []) Q (q ∙ sym (append_assoc P (e ∷ []) Q)) (still_none L l P e k s n (λ t. no (closes_above L k s e) h t)) c)
    (tested (closes_above L k s e))

pub closed_has_covering_close : ClosedHasCoveringClose
closed_has_covering_close L l k s c = covering_from L l k s [] L refl (λ a w m. among_nil m.1.1) c

-- the event of a covering Close, where the ledger goes on behind it
noted_there : (L : List Event) (k : StreamNo) (s : ℕ) (P C T : List Event) (c : IsCoveringClose L k s C) → P ≡ C ++ c.event ∷ T → NotesClose P k c.scope
noted_there L k s P C T c q = (c.exit, (c.event, subst (λ x. IsAmong c.event x) (sym q) (among_mid C T c.event), c.by, c.closes))

longer : (P C T : List Event) → P ≡ C ++ T → length P ≡ length C + length T
longer P C T q = ap length q ∙ length-append C T

same_front : (P C S T : List Event) → C ≡ P ++ S → P ≡ C ++ T → P ≡ C
same_front P C S [] p c = c ∙ append-nil C
same_front P C S (x ∷ T) p c =
    let e = longer C P S p in
    let f : length P ≡ length C + (1 + length T) = longer P C (x ∷ T) c ∙ ap (λ m. length C + m) (omega arith) in
    absurd (omega arith)

pub covering_close_is_one : CoveringCloseIsOne
covering_close_is_one L k s P C p c = ⊎_elim
    (λ f. absurd (p.first c.scope c.above (noted_there L k s P C f.0 c f.1)))
    (λ f. ⊎_elim
    (λ g. absurd (c.first p.scope p.above (noted_there L k s C P g.0 p g.1)))
    (λ g. same_front P C f.0 g.0 f.1 g.1)
    (split_append C (c.event ∷ c.rest) P p.rest p.event (sym c.stands ∙ p.stands)))
    (split_append P (p.event ∷ p.rest) C c.rest c.event (sym p.stands ∙ c.stands))

behind : (C P T : List Event) → P ≡ C ++ T → (T ≡ [] → ⊥) → length C < length P
behind C P [] q n = absurd (n refl)
behind C P (x ∷ T) q n = let e : length P ≡ length C + (1 + length T) = longer P C (x ∷ T) q ∙ ap (λ m. length C + m) (omega arith) in omega arith

pub finals_follow_covering_close : FinalsFollowCoveringClose
finals_follow_covering_close L l w P Q C e k r s x ok q f n c =
    let d : IsRowClosed P r = w.after_close P Q e r x ok q f in
    let z : IsClosed P k s = row_scope_closed L P l (λ j u m. subst (λ (M : List Event). Notes M j u) (sym q) (front_notes (e ∷ Q) m)) r k s n d in
    let v : LiesWithin L k s z.0 = subst (λ x. LiesWithin x k s z.0) (sym q) (front_within (e ∷ Q) z.1) in
    ⊎_elim
    (λ g. absurd (c.first z.0 v (subst (λ x. NotesClose x k z.0) (sym g.1) (z.2.0, front_notes (e ∷ g.0) z.2.1))))
    (λ g. behind C P g.0 g.1 (λ t. c.first z.0 v (subst (λ x. NotesClose x k z.0) (g.1 ∙ ap (λ x. C ++ x) t ∙ append-nil C) z.2)))
    (split_append C (c.event ∷ c.rest) P Q e (sym c.stands ∙ q))
