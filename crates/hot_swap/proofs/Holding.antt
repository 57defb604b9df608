-- What is held after each call.
use Rattle.std.proofs.Common.{append_assoc, nat_eq, not, ◌&&◌, if◌then◌else◌, true, false, ◌≡◌, ◌≢◌, ℕ, ◌+◌, ◌≤◌, ◌<◌, Bool, List, [], ◌∷◌, ◌++◌, length, ◌⊎◌, inl, inr, refl, sym, ap, ◌∙◌, subst, ⊎_elim, append-nil, arith, Option, None, Some, length-append}
use Rattle.std.specs.List.{flat_map}
use Rattle.std.proofs.lemmas.Grind.{flat_map-append}
use Rattle.chunk_core.specs.Lists.{IsAmong}
use Rattle.chunk_core.specs.Lists.IsAmong.{here, there}
use Rattle.chunk_core.proofs.Members.{among_cons, among_nil, among_left, among_last, among_snoc}
use Rattle.chunk_core.specs.declared.code.Exit.{Exit}
use Rattle.chunk_core.specs.declared.code.Exit.TheVariants.{Succeeded}
use Rattle.res_ledger.specs.declared.event.What.{What}
use Rattle.res_ledger.specs.declared.event.What.TheVariants.{Open, Acquire, Close, Final}
use Rattle.res_ledger.specs.Ledger.{Notes, NotesClose, LiesWithin, IsClosed, IsUsable}
use Rattle.res_ledger.specs.Ledger.LiesWithin.{same, below}
use Rattle.res_ledger.specs.Order.{finals}
use Rattle.res_ledger.specs.Own.{opens, opens_of, closes, closes_of, rows, latest, rows_beneath, teardown}
use Rattle.chunk_core.specs.Lists.{has}
use Rattle.chunk_core.proofs.Bools.{has_in, in_has, itself}
use Rattle.std.proofs.lemmas.Bool.{false_from_ne_true, ne_eqb}
use Rattle.chunk_core.proofs.Filters.{among_append, among_right}
use Rattle.res_ledger.proofs.Noted.{closes_notes, opens_notes, notes_opens, notes_closes}
use Rattle.row_seat.specs.declared.view.View.{View}
use Rattle.scope_tree.specs.Calls.{Seen, IsOpenScope, OpensScope, AcquiresRow, ClosesScope}
use Rattle.scope_tree.specs.Trace.{trace}
use Rattle.scope_tree.specs.Walks.{FirstOpen}
use Rattle.scope_tree.specs.Walks.FirstOpen.{this_one, above_it}
use Rattle.scope_tree.specs.Released.{said}
use Rattle.scope_tree.proofs.Grown.{closes_finals, opens_finals, rows_finals}
use Rattle.scope_tree.proofs.Bridge.{rows_append}
use Rattle.scope_tree.proofs.Use.{opened_said, acquired_said, closed_said}
use Rattle.scope_tree.specs.Rights.{IsSameSeat, KeepsLeases}
use Rattle.hot_swap.specs.declared.swap.Held.{Held}
use Rattle.hot_swap.specs.Swaps.{IsHeld, IsHolding, held_row}

opens_more : (E F : List What) → opens (E ++ F) ≡ opens E ++ opens F
opens_more E F = flat_map-append opens_of E F

closes_more : (E F : List What) → closes (E ++ F) ≡ closes E ++ closes F
closes_more E F = flat_map-append closes_of E F

none_some : {A : Type 0} (x : A) → None ≡ Some x → ⊥
none_some x e = cc

some_is : {A : Type 0} (x y : A) → Some x ≡ Some y → x ≡ y
some_is x y e = cc

-- What a teardown takes, by what was opened and acquired.

latest_snoc : (xs : List (ℕ × ℕ)) (z : ℕ × ℕ) (s : ℕ) → latest (xs ++ z ∷ []) s ≡ (if nat_eq z.1 s then z.0 ∷ [] else []) ++ latest xs s
latest_snoc [] z s = sym (append-nil (if nat_eq z.1 s then z.0 ∷ [] else []))
latest_snoc (x ∷ xs) z s =
    ap (λ l. l ++ (if nat_eq x.1 s then x.0 ∷ [] else [])) (latest_snoc xs z s)
    ∙ append_assoc (if nat_eq z.1 s then z.0 ∷ [] else []) (latest xs s) (if nat_eq x.1 s then x.0 ∷ [] else [])

latest_none : (xs : List (ℕ × ℕ)) (s : ℕ) → ((r c : ℕ) → IsAmong (r, c) xs → c ≢ s) → latest xs s ≡ []
latest_none [] s h = refl
latest_none (x ∷ xs) s h =
    ap (λ b. latest xs s ++ (if b then x.0 ∷ [] else [])) (ne_eqb x.1 s (h x.0 x.1 (here xs)))
    ∙ append-nil (latest xs s) ∙ latest_none xs s (λ r c m. h r c (there x m))

-- a row more, in another scope
pub latest_other : (xs : List (ℕ × ℕ)) (r c s : ℕ) → c ≢ s → latest (xs ++ (r, c) ∷ []) s ≡ latest xs s
latest_other xs r c s n = latest_snoc xs (r, c) s ∙ ap (λ b. (if b then r ∷ [] else []) ++ latest xs s) (ne_eqb c s n)

-- the first row of its scope
pub latest_first : (xs : List (ℕ × ℕ)) (r c : ℕ) → ((q s : ℕ) → IsAmong (q, s) xs → s ≢ c) → latest (xs ++ (r, c) ∷ []) c ≡ r ∷ []
latest_first xs r c h = latest_snoc xs (r, c) c ∙ ap (λ b. (if b then r ∷ [] else []) ++ latest xs c) (itself c) ∙ ap (λ l. r ∷ l) (latest_none xs c h)

module _ (shut : ℕ → Bool) (xs : List (ℕ × ℕ)) where
  pub beneath_none : (os : List (ℕ × ℕ)) (s : ℕ) → ((c p : ℕ) → IsAmong (c, p) os → (nat_eq p s && not (shut c)) ≡ false) → rows_beneath os shut xs s ≡ []
  beneath_none [] s h = refl
  beneath_none (o ∷ os) s h =
      ap (λ b. rows_beneath os shut xs s ++ (if b then rows_beneath os shut xs o.0 ++ latest xs o.0 else [])) (h o.0 o.1 (here os))
      ∙ append-nil (rows_beneath os shut xs s) ∙ beneath_none os s (λ c p m. h c p (there o m))

  -- of the children of the root the last one alone is open
  pub beneath_last : (os : List (ℕ × ℕ)) (c : ℕ) → ((d p : ℕ) → IsAmong (d, p) os → (nat_eq p 0 && not (shut d)) ≡ false) → shut c ≡ false → rows_beneath (os ++ (c, 0) ∷ []) shut xs 0 ≡ latest xs c
  beneath_last [] c h e = ap (λ b. (if not b then latest xs c else [])) e
  beneath_last (o ∷ os) c h e =
      ap (λ b. rows_beneath (os ++ (c, 0) ∷ []) shut xs 0 ++ (if b then rows_beneath (os ++ (c, 0) ∷ []) shut xs o.0 ++ latest xs o.0 else [])) (h o.0 o.1 (here os))
      ∙ append-nil (rows_beneath (os ++ (c, 0) ∷ []) shut xs 0) ∙ beneath_last os c (λ d p m. h d p (there o m)) e

no_child : (p s : ℕ) (b : Bool) → p ≢ s → (nat_eq p s && b) ≡ false
no_child p s b n = ap (λ a. a && b) (ne_eqb p s n)

shut_child : (p s : ℕ) (b : Bool) → b ≡ true → (nat_eq p s && not b) ≡ false
shut_child p s b e = ap (λ a. nat_eq p s && not a) e ∙ (elim (nat_eq p s) as (λ a. (a && false) ≡ false) [ true ↦ refl | false ↦ refl ])

module _ {P : Type 0} where
  -- the root is open
  pub root_open : (a : Seen P) (h : Option Held) → IsHolding a h → IsOpenScope a 0
  root_open a h k = (inl refl, λ c. closed 0 c.0 c.1 c.2 refl)
    where
      closed : (s x : ℕ) → LiesWithin a.seat.events a.seat.by s x → NotesClose a.seat.events a.seat.by x → s ≡ 0 → ⊥
      closed s x (same y) z e = k.root (subst (λ v. IsAmong v (closes (trace a.seat))) e (notes_closes a.seat.events a.seat.by y z))
      closed s x (below y p b o w) z e = let t = k.flat y p (notes_opens a.seat.events a.seat.by y p o) in let l = t.1 in absurd (omega arith)

  -- what is held is open
  pub held_open : (a : Seen P) (h : Option Held) → IsHolding a h → (c : ℕ) → IsHeld h c → IsOpenScope a c
  held_open a h k c i = let t = k.held c i in (inr (t.0.0, opens_notes a.seat.events a.seat.by (c, t.0.0) t.0.1), λ x. closed c x.0 x.1 x.2 t.1)
    where
      closed : (s x : ℕ) → LiesWithin a.seat.events a.seat.by s x → NotesClose a.seat.events a.seat.by x → ¬ (IsAmong s (closes (trace a.seat))) → ⊥
      closed s x (same y) z n = n (notes_closes a.seat.events a.seat.by y z)
      closed s x (below y p b o w) z n = (root_open a h k).1 (b, subst (λ v. LiesWithin a.seat.events a.seat.by v b) (k.flat y p (notes_opens a.seat.events a.seat.by y p o)).0 w, z)

  pub start_holds : (a : Seen P) → opens (trace a.seat) ≡ [] → IsOpenScope a 0 → ((r c : ℕ) → IsAmong (r, c) (rows (trace a.seat)) → c ≡ 0) → IsHolding a None
  start_holds a e o rooted = record {
    flat = λ c p m. absurd (among_nil (subst (IsAmong (c, p)) e m));
    root = λ m. o.1 (0, same 0, closes_notes a.seat.events a.seat.by 0 m);
    shut = λ c p m. absurd (among_nil (subst (IsAmong (c, p)) e m));
    held = λ c i. absurd i;
    last = λ k i. absurd (none_some k i);
    known = λ r c m. let z = rooted r c m in omega arith;
    row = λ k i. absurd (none_some k i);
  }

  pub root_first : (a : Seen P) (h : Option Held) (q : ℕ) → IsHolding a h → {c : ℕ} → FirstOpen a.seat.events a.seat.by c q → c ≡ 0 → q ≡ 0
  root_first a h q k (this_one c n) e = e
  root_first a h q k (above_it c p r x n f) e = absurd ((root_open a h k).1 (subst (IsClosed a.seat.events a.seat.by) e x))

  -- after the new scope was opened and its row acquired, two scopes are open below the root
  pub record Between (a : Seen P) (h : Option Held) (k : Held) : Type 0 where
    pub opened : List (ℕ × ℕ)
    pub shut : List ℕ
    pub opens : opens (trace a.seat) ≡ opened ++ (k.scope, 0) ∷ []
    pub closes : closes (trace a.seat) ≡ shut
    pub number : k.scope ≡ length opened + 1
    pub flat : (c p : ℕ) → IsAmong (c, p) opened → (p ≡ 0) × (1 ≤ c) × (c ≤ length opened)
    pub root : ¬ (IsAmong 0 shut)
    pub rest : (c p : ℕ) → IsAmong (c, p) opened → IsAmong c shut ⊎ IsHeld h c
    pub held : (c : ℕ) → IsHeld h c → ((p : ℕ) × IsAmong (c, p) opened) × ¬ (IsAmong c shut)
    pub fresh : ¬ (IsAmong k.scope shut)
    pub old_rows : List (ℕ × ℕ)
    pub acquired : rows (trace a.seat) ≡ old_rows ++ (k.row, k.scope) ∷ []
    pub known : (r c : ℕ) → IsAmong (r, c) old_rows → c ≤ length opened
    pub row : (g : Held) → h ≡ Some g → latest old_rows g.scope ≡ g.row ∷ []

  pub between : (a b d : Seen P) (h : Option Held) (k : Held) (p : P) → IsHolding a h → OpensScope a 0 k.scope b → IsOpenScope b k.scope → AcquiresRow b k.scope k.row p d → Between d h k
  between a b d h k p i o u q =
      let E = trace a.seat in
      let z : o.parent ≡ 0 = root_first a h o.parent i o.nearest refl in
      let t : trace d.seat ≡ (E ++ Open k.scope o.parent ∷ []) ++ Acquire k.row k.scope ∷ [] = acquired_said q ∙ ap (λ l. l ++ Acquire k.row k.scope ∷ []) (opened_said o) in
      let os : opens (trace d.seat) ≡ opens E ++ (k.scope, 0) ∷ [] = ap opens t ∙ opens_more (E ++ Open k.scope o.parent ∷ []) (Acquire k.row k.scope ∷ []) ∙ append-nil (opens (E ++ Open k.scope o.parent ∷ [])) ∙ opens_more E (Open k.scope o.parent ∷ []) ∙ ap (λ (x : ℕ). opens E ++ (k.scope, x) ∷ []) z in
      let bs : closes (trace b.seat) ≡ closes E = ap closes (opened_said o) ∙ closes_more E (Open k.scope o.parent ∷ []) ∙ append-nil (closes E) in
      let cs : closes (trace d.seat) ≡ closes E = ap closes (acquired_said q) ∙ closes_more (trace b.seat) (Acquire k.row k.scope ∷ []) ∙ append-nil (closes (trace b.seat)) ∙ bs in
      record {
        opened = opens E;
        shut = closes E;
        opens = os;
        closes = cs;
        number = o.number;
        flat = i.flat;
        root = i.root;
        rest = i.shut;
        held = i.held;
        fresh = λ m. u.1 (k.scope, same k.scope, closes_notes b.seat.events b.seat.by k.scope (subst (IsAmong k.scope) (sym bs) m));
        old_rows = rows E;
        acquired = ap rows t ∙ (rows_append (E ++ Open k.scope o.parent ∷ []) (Acquire k.row k.scope ∷ []) ∙ ap (λ l. l ++ (k.row, k.scope) ∷ []) (rows_append E (Open k.scope o.parent ∷ []) ∙ append-nil (rows E)));
        known = i.known;
        row = i.row;
      }

  -- the old one is let go
  pub after : (d e : Seen P) (h : Option Held) (k : Held) (gone : List ℕ) → Between d h k → opens (trace e.seat) ≡ opens (trace d.seat) → rows (trace e.seat) ≡ rows (trace d.seat) → closes (trace e.seat) ≡ closes (trace d.seat) ++ gone → ((c : ℕ) → IsAmong c gone → IsHeld h c) → ((c : ℕ) → IsHeld h c → IsAmong c gone) → IsHolding e (Some k)
  after d e h k gone t os rs cs only all =
      let O : opens (trace e.seat) ≡ t.opened ++ (k.scope, 0) ∷ [] = os ∙ t.opens in
      let R : rows (trace e.seat) ≡ t.old_rows ++ (k.row, k.scope) ∷ [] = rs ∙ t.acquired in
      let C : closes (trace e.seat) ≡ t.shut ++ gone = cs ∙ ap (λ l. l ++ gone) t.closes in
      let n : length (opens (trace e.seat)) ≡ length t.opened + 1 = ap length O ∙ length-append t.opened ((k.scope, 0) ∷ []) in
      let below_new : (c : ℕ) → IsHeld h c → c ≢ k.scope = λ c i x. let y = t.held c i in let z = t.flat c y.0.0 y.0.1 in let l = z.2 in let m = t.number in absurd (omega arith) in
      record {
        flat = λ c p m. ⊎_elim
            (λ l. let f = t.flat c p l in (f.0, f.1, (let x = f.2 in omega arith)))
            (λ x. let num = t.number in let c_is : c ≡ k.scope = ap (λ (y : ℕ × ℕ). y.0) x in (ap (λ (y : ℕ × ℕ). y.1) x, (omega arith), (omega arith)))
            (among_snoc t.opened (c, p) (k.scope, 0) (subst (IsAmong (c, p)) O m));
        root = λ m. ⊎_elim (λ l. t.root l) (λ l. let y = t.held 0 (only 0 l) in let z = (t.flat 0 y.0.0 y.0.1).1 in absurd (omega arith)) (among_append 0 t.shut gone (subst (IsAmong 0) C m));
        shut = λ c p m. ⊎_elim
            (λ l. inl (subst (IsAmong c) (sym C) (⊎_elim (λ s. among_left gone s) (λ s. among_right c t.shut gone (all c s)) (t.rest c p l))))
            (λ x. inr (sym (ap (λ (y : ℕ × ℕ). y.0) x)))
            (among_snoc t.opened (c, p) (k.scope, 0) (subst (IsAmong (c, p)) O m));
        held = λ c i. (
          (0, subst (IsAmong (c, 0)) (sym O) (subst (λ (x : ℕ). IsAmong (x, 0) (t.opened ++ (k.scope, 0) ∷ [])) i (among_last t.opened (k.scope, 0)))),
          λ m. ⊎_elim (λ l. t.fresh (subst (λ x. IsAmong x t.shut) (sym i) l)) (λ l. below_new c (only c l) (sym i)) (among_append c t.shut gone (subst (IsAmong c) C m)),
        );
        last = λ j i. let same : k ≡ j = some_is k j i in subst (λ (x : Held). (us : List (ℕ × ℕ)) × (opens (trace e.seat) ≡ us ++ (x.scope, 0) ∷ []) × ((c p : ℕ) → IsAmong (c, p) us → IsAmong c (closes (trace e.seat)))) same
            (t.opened, O, λ c p m. subst (IsAmong c) (sym C) (⊎_elim (λ s. among_left gone s) (λ s. among_right c t.shut gone (all c s)) (t.rest c p m)));
        known = λ r c m. ⊎_elim
            (λ l. let b = t.known r c l in omega arith)
            (λ x. let num = t.number in let c_is : c ≡ k.scope = ap (λ (y : ℕ × ℕ). y.1) x in omega arith)
            (among_snoc t.old_rows (r, c) (k.row, k.scope) (subst (IsAmong (r, c)) R m));
        row = λ j i. let same : k ≡ j = some_is k j i in subst (λ (x : Held). latest (rows (trace e.seat)) x.scope ≡ x.row ∷ []) same
            (ap (λ l. latest l k.scope) R ∙ latest_first t.old_rows k.row k.scope (λ q s m x. let b = t.known q s m in let num = t.number in absurd (omega arith)));
      }

  pub kept_none : (d : Seen P) (k : Held) → Between d None k → IsHolding d (Some k)
  kept_none d k t = after d d None k [] t refl refl (sym (append-nil (closes (trace d.seat)))) (λ c m. absurd (among_nil m)) (λ c i. absurd i)

  pub kept_some : {ends : P → Exit → Bool → P → Type 0} {x : Exit} (d e : Seen P) (g k : Held) → Between d (Some g) k → ClosesScope ends d g.scope x e → IsHolding e (Some k)
  kept_some {x = x} d e g k t c =
      let F = finals x (said c.torn.0) in
      let w = Close g.scope x in
      after d e (Some g) k (g.scope ∷ []) t
      (ap opens (closed_said c) ∙ opens_more (trace d.seat) (w ∷ F) ∙ ap (λ l. opens (trace d.seat) ++ l) (opens_finals x (said c.torn.0)) ∙ append-nil (opens (trace d.seat)))
      (ap rows (closed_said c) ∙ rows_append (trace d.seat) (w ∷ F) ∙ ap (λ l. rows (trace d.seat) ++ l) (rows_finals x (said c.torn.0)) ∙ append-nil (rows (trace d.seat)))
      (ap closes (closed_said c) ∙ closes_more (trace d.seat) (w ∷ F) ∙ ap (λ l. closes (trace d.seat) ++ g.scope ∷ l) (closes_finals x (said c.torn.0)))
      (λ c m. ⊎_elim (λ e. sym e) (λ n. absurd (among_nil n)) (among_cons m))
      (λ c i. subst (λ v. IsAmong v (g.scope ∷ [])) i (here []))

  -- what is held has its one row
  pub torn_held : (d : Seen P) (g k : Held) → Between d (Some g) k → teardown (trace d.seat) g.scope ≡ g.row ∷ []
  torn_held d g k t =
      let E = trace d.seat in
      let y = t.held g.scope refl in
      let f = t.flat g.scope y.0.0 y.0.1 in
      let num = t.number in
      let least = f.1 in
      let most = f.2 in
      ap (λ l. l ++ latest (rows E) g.scope) (beneath_none (λ c. has c (closes E)) (rows E) (opens E) g.scope (λ c p m. no_child p g.scope (not (has c (closes E)))
      (λ e. ⊎_elim
      (λ l. let z = (t.flat c p l).0 in absurd (omega arith))
      (λ x. let z : p ≡ 0 = ap (λ (w : ℕ × ℕ). w.1) x in absurd (omega arith))
      (among_snoc t.opened (c, p) (k.scope, 0) (subst (IsAmong (c, p)) t.opens m)))))
      ∙ ap (λ l. latest l g.scope) t.acquired ∙ latest_other t.old_rows k.row k.scope g.scope (λ e. absurd (omega arith)) ∙ t.row g refl

  -- a Close of the root takes what is held, and then the root's own rows
  pub torn_root : (a : Seen P) (h : Option Held) → IsHolding a h → teardown (trace a.seat) 0 ≡ held_row h ++ latest (rows (trace a.seat)) 0
  torn_root a None i =
      let E = trace a.seat in
      ap (λ l. l ++ latest (rows E) 0) (beneath_none (λ c. has c (closes E)) (rows E) (opens E) 0 (λ c p m. shut_child p 0 (has c (closes E)) (⊎_elim (λ s. in_has c (closes E) s) (λ x. absurd x) (i.shut c p m))))
  torn_root a (Some k) i =
      let E = trace a.seat in
      let l = i.last k refl in
      ap (λ r. r ++ latest (rows E) 0)
      (ap (λ os. rows_beneath os (λ c. has c (closes E)) (rows E) 0) l.1
      ∙ beneath_last (λ c. has c (closes E)) (rows E) l.0 k.scope (λ c p m. shut_child p 0 (has c (closes E)) (in_has c (closes E) (l.2 c p m)))
      (false_from_ne_true (has k.scope (closes E)) (λ e. (i.held k.scope refl).1 (has_in k.scope (closes E) e)))
      ∙ i.row k refl)
