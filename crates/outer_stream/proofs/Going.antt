-- Parts that are begun one after another, until a stream is given or the outer stream is over.
use Rattle.std.proofs.Common.{true, ◌≡◌, ◌≢◌, ℕ, zero, suc, ◌+◌, ◌*◌, ◌<◌, ◌≤◌, List, [], ◌∷◌, ◌++◌, append-nil, append_assoc, length, Some, Result, Ok, Err, refl, sym, ap, ◌∙◌, subst, ⊎_elim, arith}
use Rattle.std.specs.Prelude.{IsErrAnd}
use Rattle.std.specs.List.{slice_get}
use Rattle.std.proofs.lemmas.Bool.{cases_eq}
use Rattle.chunk_core.specs.declared.code.How.TheVariants as how
use Rattle.device_port.specs.Device.{DeviceTold}
use Rattle.device_port.specs.Depot.{DepotTold}
use Rattle.join_tree.specs.Given.{GivesMore, given}
use Rattle.join_tree.specs.Progress.{Progress, reading}
use Rattle.join_tree.specs.Steps.{KeepsGuests}
use Rattle.pipeline_desc.specs.declared.table.TableSpec.{TableSpec}
use Rattle.res_ledger.specs.declared.event.What.TheVariants.{Lease as lease_note}
use Rattle.res_ledger.specs.Own.{opens}
use Rattle.scope_tree.specs.Calls.{IsOpenScope, KeepsScopes, Seen, TakesRoom}
use Rattle.scope_tree.specs.Trace.{owed, trace}
use Rattle.outer_stream.specs.declared.next.OuterPart.{OuterPart}
use Rattle.outer_stream.specs.declared.outer.Outer.{Outer}
use Rattle.outer_stream.specs.Parts.{Gave, GaveLast, IsAmid, children_left, closing, opening}
use Rattle.outer_stream.specs.Parts.Gave.{leased, left}
use Rattle.outer_stream.specs.Parts.GaveLast.{all, amid}
use Rattle.outer_stream.specs.Pulls.{Ends, Goes, IsOpenAt, NextPart, ReadsPart, Went}
use Rattle.outer_stream.specs.Pulls.IsOverBy.{done, unleased}
use Rattle.outer_stream.specs.Pulls.Went.{nowhere, on}
use Rattle.outer_stream.specs.Steps.{Steps, children}
use Rattle.outer_stream.proofs.Begun.{part_begun, part_unread}
use Rattle.outer_stream.proofs.Follow.{follow_done, follow_within}
use Rattle.outer_stream.proofs.Gave.{gave_leased, gave_opens, opens_given}
use Rattle.outer_stream.proofs.Keeping.{others_kept, others_same, others_then, rows_same, rows_then}
use Rattle.outer_stream.proofs.Stepping.{steps_then}

-- a part that isn't the first has a child scope
some_child : (parts : List OuterPart) (k : ℕ) → k ≢ 0 → k < length parts → 1 ≤ children_left parts k
some_child parts zero some l = absurd (some refl)
some_child parts (suc k) some l = omega (l, arith)

module _ {V : Type 0} (told : V → DeviceTold) (parts : List OuterPart) (tables : List TableSpec) (n width N : ℕ) where
  went_then : {x y z : Outer} {old mid new : DepotTold} {a b c : Seen V} → Went told parts tables x y old mid a b → Went told parts tables y z mid new b c → Went told parts tables x z old new a c
  went_then f nowhere = f
  went_then f (on g h) = on (went_then f g) h

  reads_on : (E : List _) (q : Progress V) (x : Outer) (a : Seen V) → E ≡ [] → IsOpenAt told parts tables n width N q x a → IsOpenAt told parts tables n width N (reading q E) x a
  reads_on E q x a e h = subst (λ T. IsOpenAt told parts tables n width N (record q { tables = T }) x a) (sym (ap (λ L. q.tables ++ L) e ∙ append-nil q.tables)) h

  pub goes_nowhere : (q : Progress V) (x : Outer) (old : DepotTold) (a : Seen V) → IsOpenAt told parts tables n width N q x a → Goes told parts tables n width N q x x old old a a
  goes_nowhere q x old a h = record {
    went = nowhere;
    noted = [];
    gives = sym (append-nil (given a.seat));
    now = reads_on [] q x a refl h;
    leased = refl;
    keeps = others_same (length tables) a;
    rows = rows_same a;
    room = record { used = omega arith; opens = omega arith; rows = refl; scopes = refl };
    paid = omega arith;
  }

  pub goes_then : (q : Progress V) (x y z : Outer) (old mid new : DepotTold) (a b c : Seen V) (f : Goes told parts tables n width N q x y old mid a b) → Goes told parts tables n width N (reading q f.noted) y z mid new b c → Goes told parts tables n width N q x z old new a c
  goes_then q x y z old mid new a b c f g = record {
    went = went_then f.went g.went;
    noted = f.noted ++ g.noted;
    gives = g.gives ∙ (ap (λ L. L ++ g.noted) f.gives ∙ append_assoc (given a.seat) f.noted g.noted);
    now = subst (λ T. IsOpenAt told parts tables n width N (record q { tables = T }) z c) (append_assoc q.tables f.noted g.noted) g.now;
    leased = g.leased ∙ f.leased;
    keeps = others_then (length tables) (length tables) a b c (omega arith) f.keeps g.keeps;
    rows = rows_then a b c f.rows g.rows;
    room =
        let r = f.room in
        let s = g.room in record {
          used = let u = r.used in let v = s.used in omega (u, v, arith);
          opens = let u = r.opens in let v = s.opens in omega (u, v, arith);
          rows = s.rows ∙ r.rows;
          scopes = s.scopes ∙ r.scopes;
        };
    paid = let e = f.paid in let h = g.paid in omega (e, h, arith);
  }

  module _ (q : Progress V) (x : Outer) (a : Seen V) (o : IsOpenAt told parts tables n width N q x a) where
    module _ (b : Seen V) (f : Steps told (closing x.scope) 0 0 a b) where
      -- no part is left
      pub part_done : (y : Outer) (old : DepotTold) → y ≡ record x { scope = 0 } → x.leased ≡ x.behind → x.part ≡ length parts → Ends told parts tables n width N q x y old old a b how.Done
      part_done y old same full last =
          let all' : x.leased ≡ n = full ∙ (follow_done parts x.part x.table x.behind (length tables) n last o.amid.follow).1 in
          record {
            cause = done last all' same refl f.gives;
            noted = closing x.scope;
            gives = f.gives;
            main = f.main width N q o.main o.root;
            gave =
                let g : Gave parts x.part x.scope x.table x.leased x.leased (given a.seat) = subst (λ i. Gave parts x.part x.scope x.table i x.leased (given a.seat)) (sym full) o.amid.gave in
                subst (λ L. GaveLast parts n how.Done L) (sym f.gives)
                (all (subst (λ i. Gave parts (length parts) 0 x.table i i (given a.seat ++ closing x.scope)) all'
                (subst (λ k. Gave parts k 0 x.table x.leased x.leased (given a.seat ++ closing x.scope)) last (left g))));
            leased = ap (λ (z : Outer). z.leased) same;
            keeps = others_kept (length tables) a b f.guests;
            rows = f.rows;
            room = λ e. f.room;
            paid = let e = f.events in omega (e, arith);
          }

      -- a child scope may be opened for the next part
      pub may_enter : x.part < length parts → x.part ≢ 0 → (length (opens (trace b.seat)) + 1 < b.scopes) × (owed b.seat + 2 ≤ b.seat.spare)
      may_enter less some =
          let c = some_child parts x.part some less in
          let u = f.room.opens in
          let v = f.room.scopes in
          let w = o.amid.scopes in
          let e = f.events in
          let h = o.may.free in
          (omega (c, u, v, w, arith), omega (c, e, h, arith))

      -- it has the part's number then
      pub number_is : (s : ℕ) → (x.part ≡ 0 → s ≡ 0) → (x.part ≢ 0 → s ≡ length (opens (trace b.seat)) + 1) → s ≡ x.part
      number_is s first child = ⊎_elim
          (λ e. first e ∙ sym e)
          (λ ne.
          let h = child ne in
          let u = f.room.opens in
          let g = gave_opens o.amid.gave in
          let k = ap length (opens_given (trace a.seat)) in
          omega (h, u, g, k, ne, arith))
          (cases_eq x.part 0)

      pub entered : (s : ℕ) (c : Seen V) → s ≡ x.part → Steps told (opening s) (children s) (2 * children s) b c → Steps told (closing x.scope ++ opening x.part) (children x.part) (2 * children x.part) a c
      entered s c is g =
          let h = steps_then told (closing x.scope) (opening s) 0 (children s) 0 (2 * children s) a b c f g in
          let k : 0 + children s ≡ children s = omega arith in
          let m : 0 + 2 * children s ≡ 2 * children s = omega arith in
          subst (λ i. Steps told (closing x.scope ++ opening i) (children i) (2 * children i) a c) is
          (subst (λ i. Steps told (closing x.scope ++ opening s) (children s) i a c) m (subst (λ i. Steps told (closing x.scope ++ opening s) i (0 + 2 * children s) a c) k h))

    module _ (full : x.leased ≡ x.behind) (p : OuterPart) (is : slice_get parts x.part ≡ Some p) (less : x.part < length parts) (b : Seen V) (f : Steps told (closing x.scope ++ opening x.part) (children x.part) (2 * children x.part) a b) (scope : IsOpenScope b x.part) (y z : Outer) (same : y ≡ record x { scope = x.part }) (old new : DepotTold) (c : Seen V) where
      pub went_on : ReadsPart told tables p y z old new b c (Ok tt) → NextPart told parts tables n width N q x z old new a c (Ok true)
      went_on r =
          let s : ReadsPart told tables p (record x { scope = x.part }) z old new b c (Ok tt) = subst (λ (v : Outer). ReadsPart told tables p v z old new b c (Ok tt)) same r in
          let is' : z ≡ record x { scope = x.part; part = x.part + 1; behind = p.behind; table = p.tables.to; tables = z.tables } = s.now in (
            less,
            ap (λ (v : Outer). v.part) is',
            subst (λ (v : Outer). Goes told parts tables n width N q x v old new a c) (sym is')
                (part_begun told parts tables n width N q x p a b o full is f scope old new c z.tables (subst (λ (v : Outer). ReadsPart told tables p (record x { scope = x.part }) v old new b c (Ok tt)) is' s)),
          )

      pub went_off : (e : Result _ _) (w : _) → IsErrAnd e (λ v. v ≡ w) → ReadsPart told tables p y z old new b c (Err w) → NextPart told parts tables n width N q x z old new a c e
      went_off (Ok u) w is r = absurd is
      went_off (Err v) w is' r = subst (λ k. NextPart told parts tables n width N q x z old new a c (Err k)) (sym is')
          (part_unread told parts tables n width N q x p a b o full is f scope z old new c w (subst (λ (v : Outer). ReadsPart told tables p v z old new b c (Err w)) same r))

    -- a stream is left
    pub some_left : x.leased ≢ x.behind → x.leased < n
    some_left ne = let l = gave_leased o.amid.gave in let s = (follow_within x.table x.behind _ (length tables) n o.amid.follow).1 in omega (l, s, ne, arith)

    pub amid_leased : (b : Seen V) → x.leased ≢ x.behind → GivesMore (lease_note x.leased x.scope ∷ []) a b → KeepsGuests a b → KeepsScopes a b → TakesRoom 0 0 a b → IsAmid parts (length tables) n (record x { leased = x.leased + 1 }) b
    amid_leased b ne gives g s r = record {
      gave =
          let l = gave_leased o.amid.gave in
          let e : suc x.leased ≡ x.leased + 1 = omega arith in
          subst (λ i. Gave parts x.part x.scope x.table x.behind i (given b.seat)) e
          (subst (λ L. Gave parts x.part x.scope x.table x.behind (suc x.leased) L) (sym gives) (leased (omega (l, ne, arith)) o.amid.gave));
      follow = o.amid.follow;
      scope = s.usable x.scope o.amid.scope;
      rows = λ i l m. g.empty i (o.amid.rows i l m);
      used = let u = r.used in let v = r.rows in let w = o.amid.used in omega (u, v, w, arith);
      scopes = let u = r.opens in let v = r.scopes in let w = o.amid.scopes in omega (u, v, w, arith);
    }

    -- memory was wanting for the lease
    pub ends_unleased : (old : DepotTold) (b : Seen V) → b ≡ a → Ends told parts tables n width N q x x old old a b how.Memory
    ends_unleased old b e = subst (λ (z : Seen V). Ends told parts tables n width N q x x old old a z how.Memory) (sym e) (record {
      cause = unleased refl refl refl;
      noted = [];
      gives = sym (append-nil (given a.seat));
      main = (reads_on [] q x a refl o).main;
      gave = amid o.amid.gave;
      leased = refl;
      keeps = others_same (length tables) a;
      rows = rows_same a;
      room = λ e. cc;
      paid = omega arith;
    })
