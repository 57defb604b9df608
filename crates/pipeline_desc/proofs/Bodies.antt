-- What holds of the body of a stream: its files, the steps, and their join.
use Rattle.std.proofs.Common.{◌≡◌, ℕ, ◌+◌, ◌*◌, ◌≤◌, ◌&&◌, true, nat_eq, List, [], ◌∷◌, length, Option, Some, None, Ok, Err, refl, ap, ◌∙◌, sym, subst, arith}
use Rattle.std.specs.Prelude.{option_and_then}
use Rattle.std.specs.List.{list_any as any}
use Rattle.chunk_core.proofs.Bools.{itself, or_left, or_right}
use Rattle.pull_nodes.specs.Kinds.{node_kind, joined_kind, merged_kind, paired_kind}
use Rattle.pull_nodes.specs.Placed.{is_inside}
use Rattle.pull_nodes.specs.Shape.{node_count, scope_count, places_of, reads_of, uses_of, writes_of}
use Rattle.pull_nodes.specs.declared.kind.Kind.{Kind}
use Rattle.pull_nodes.specs.declared.kind.Kind.TheVariants as kind
use Rattle.pull_nodes.specs.declared.node.Node.{Node}
use Rattle.pull_nodes.specs.declared.node.Node.TheVariants.{Read, Weak'}
use Rattle.pipeline_desc.specs.Reading.{Reading, ◌>>=◌, present}
use Rattle.pipeline_desc.specs.Steps.{kind_behind_step, kind_from, kind_given, kind_joined, kind_of_second, steps_behind}
use Rattle.pipeline_desc.specs.declared.refusal.Position.TheVariants.{AtStep}
use Rattle.pipeline_desc.specs.declared.refusal.Refusal.{Refusal}
use Rattle.pipeline_desc.specs.declared.refusal.RefusalKind.TheVariants as refused
use Rattle.pipeline_desc.specs.Nodes.{Boxed, IsBehind, IsBehindStep, IsBeside, IsBody, IsCore, IsJoined}
use Rattle.pipeline_desc.specs.declared.join.Join.{Join}
use Rattle.pipeline_desc.specs.declared.join.Join.TheVariants as join
use Rattle.pipeline_desc.specs.declared.step.Step.{Step}
use Rattle.pipeline_desc.specs.declared.step.Step.TheVariants as step
use Rattle.pipeline_desc.specs.declared.stream.Second.{Second}
use Rattle.pipeline_desc.specs.declared.stream.StreamSpec.{StreamSpec}

-- two nodes acquire, read and write the same places, and have as many scopes
record IsAlike (a n : Node) : Type 0 where
  pub places : places_of n ≡ places_of a
  reads : reads_of n ≡ reads_of a
  writes : writes_of n ≡ writes_of a
  uses : uses_of n ≡ uses_of a
  scopes : scope_count n ≡ scope_count a
  inside : (ps : List ℕ) → is_inside ps n ≡ is_inside ps a

-- a step changes none of these
step_alike : (s : Step) (a n : Node) → IsBehindStep s a n → IsAlike a n
step_alike (step.Take k) a n (b, e) = subst (λ m. IsAlike a m) (sym e) (record { places = refl; reads = refl; writes = refl; uses = refl; scopes = refl; inside = λ ps. refl })
step_alike (step.Pipe p) a n (b, e) = subst (λ m. IsAlike a m) (sym e) (record { places = refl; reads = refl; writes = refl; uses = refl; scopes = refl; inside = λ ps. refl })

alike_then : (a m n : Node) → IsAlike a m → IsAlike m n → IsAlike a n
alike_then a m n x y = record {
  places = y.places ∙ x.places;
  reads = y.reads ∙ x.reads;
  writes = y.writes ∙ x.writes;
  uses = y.uses ∙ x.uses;
  scopes = y.scopes ∙ x.scopes;
  inside = λ ps. y.inside ps ∙ x.inside ps;
}

steps_alike : (steps : List Step) (a n : Node) → IsBehind steps a n → IsAlike a n
steps_alike [] a n e = subst (λ m. IsAlike a m) (sym e) (record { places = refl; reads = refl; writes = refl; uses = refl; scopes = refl; inside = λ ps. refl })
steps_alike (s ∷ steps) a n (m, one, more) = alike_then a m n (step_alike s a m one) (steps_alike steps m n more)

-- a step is one node more
step_count : (s : Step) (a n : Node) → IsBehindStep s a n → node_count n ≡ node_count a + 1
step_count (step.Take k) a n (b, e) = ap node_count e
step_count (step.Pipe p) a n (b, e) = ap node_count e

steps_count : (steps : List Step) (a n : Node) → IsBehind steps a n → node_count n ≡ node_count a + length steps
steps_count [] a n e = ap node_count e ∙ omega arith
steps_count (s ∷ steps) a n (m, one, more) = omega (arith, step_count s a m one, steps_count steps m n more)

-- the kind behind a step
step_kind : (s : Step) (a n : Node) (j : Kind) → node_kind a ≡ Some j → IsBehindStep s a n → node_kind n ≡ kind_behind_step s j
step_kind (step.Take k) a n j is (b, e) = ap node_kind e ∙ is
step_kind (step.Pipe p) a n j is (b, e) = ap node_kind e ∙ rw is refl

no_kind : (e : Refusal) (k : Kind) → ◌≡◌ {A = Reading Kind} (Err e) (Ok k) → ⊥
no_kind e k is = cc

-- the kind behind all steps, as they are read
steps_kind : (steps : List Step) (a n : Node) (k i : ℕ) (j given : Kind) → node_kind a ≡ Some j → kind_from k i steps j ≡ Ok given → IsBehind steps a n → node_kind n ≡ Some given
steps_kind [] a n k i j given is fits e = let same : j ≡ given = cc in ap node_kind e ∙ is ∙ ap (λ (l : Kind). Some l) same
steps_kind (s ∷ steps) a n k i j given is fits (m, one, more) = go (λ l at rest. steps_kind steps m n k (i + 1) l given at rest more) (kind_behind_step s j) refl
  where
    reads_on : (o : Option Kind) → kind_behind_step s j ≡ o → (present o refused.KindClash (AtStep k i) >>= kind_from k (i + 1) steps) ≡ Ok given
    reads_on o e = sym (ap (λ l. present l refused.KindClash (AtStep k i) >>= kind_from k (i + 1) steps) e) ∙ fits

    go : ((l : Kind) → node_kind m ≡ Some l → kind_from k (i + 1) steps l ≡ Ok given → node_kind n ≡ Some given) → (o : Option Kind) → kind_behind_step s j ≡ o → node_kind n ≡ Some given
    go rest None e = absurd (no_kind _ given (reads_on None e))
    go rest (Some l) e = rest l (step_kind s a m j is one ∙ e) (reads_on (Some l) e)

-- two sides of one kind join
same_joins : (k : Kind) → joined_kind k k ≡ Some k
same_joins kind.Bytes = refl
same_joins kind.Lines = refl
same_joins kind.Rows = refl
same_joins kind.Any = refl

-- what a node is like that acquires, reads, writes and uses these rows, and has so many scopes
pub record IsSeen (ps rs ws us : List ℕ) (count : ℕ) (n : Node) : Type 0 where
  pub places : places_of n ≡ ps
  pub reads : reads_of n ≡ rs
  pub writes : writes_of n ≡ ws
  pub uses : uses_of n ≡ us
  pub scopes : scope_count n ≡ count

-- one that acquires nothing, and reads these rows
abbrev Reads : List ℕ → Node → Type 0
Reads rs n = IsSeen [] rs [] rs 0 n

alike_reads : (rs : List ℕ) (a n : Node) → IsAlike a n → Reads rs a → Reads rs n
alike_reads rs a n x seen = record {
  places = x.places ∙ seen.places;
  reads = x.reads ∙ seen.reads;
  writes = x.writes ∙ seen.writes;
  uses = x.uses ∙ seen.uses;
  scopes = x.scopes ∙ seen.scopes;
}

side_reads : (place : ℕ) (steps : List Step) (n : Node) → IsBehind steps (Read place) n → Reads (place ∷ []) n
side_reads place steps n behind = alike_reads (place ∷ []) (Read place) n (steps_alike steps (Read place) n behind) (record { places = refl; reads = refl; writes = refl; uses = refl; scopes = refl })

-- the rows of both sides, in order
joined_reads : (j : Join) (a b n : Node) (p q : ℕ) → IsJoined j a b n → Reads (p ∷ []) a → Reads (q ∷ []) b → Reads (p ∷ q ∷ []) n
joined_reads join.Append a b n p q (x, y, e) s t = subst (λ m. Reads (p ∷ q ∷ []) m) (sym e) (record {
  places = rw (s.places, t.places) refl;
  reads = rw (s.reads, t.reads) refl;
  writes = rw (s.writes, t.writes) refl;
  uses = rw (s.uses, t.uses) refl;
  scopes = rw (s.scopes, t.scopes) refl;
})
joined_reads join.Zip a b n p q (x, y, e) s t = subst (λ m. Reads (p ∷ q ∷ []) m) (sym e) (record {
  places = rw (s.places, t.places) refl;
  reads = rw (s.reads, t.reads) refl;
  writes = rw (s.writes, t.writes) refl;
  uses = rw (s.uses, t.uses) refl;
  scopes = rw (s.scopes, t.scopes) refl;
})
joined_reads join.Merge a b n p q (x, y, e) s t = subst (λ m. Reads (p ∷ q ∷ []) m) (sym e) (record {
  places = rw (s.places, t.places) refl;
  reads = rw (s.reads, t.reads) refl;
  writes = rw (s.writes, t.writes) refl;
  uses = rw (s.uses, t.uses) refl;
  scopes = rw (s.scopes, t.scopes) refl;
})

-- what is inside of both sides is inside of their join
joined_inside : (j : Join) (a b n : Node) (ps : List ℕ) → IsJoined j a b n → is_inside ps n ≡ (is_inside ps a && is_inside ps b)
joined_inside join.Append a b n ps (x, y, e) = ap (is_inside ps) e
joined_inside join.Zip a b n ps (x, y, e) = ap (is_inside ps) e
joined_inside join.Merge a b n ps (x, y, e) = ap (is_inside ps) e

joined_count : (j : Join) (a b n : Node) → IsJoined j a b n → node_count n ≡ node_count a + node_count b + 1
joined_count join.Append a b n (x, y, e) = ap node_count e
joined_count join.Zip a b n (x, y, e) = ap node_count e
joined_count join.Merge a b n (x, y, e) = ap node_count e

-- two sides of a kind have the kind of their join
joined_has_kind : (j : Join) (a b n : Node) (k : Kind) → IsJoined j a b n → node_kind a ≡ Some k → node_kind b ≡ Some k → node_kind n ≡ kind_joined j k
joined_has_kind join.Append a b n k (x, y, e) s t = ap node_kind e ∙ rw (s, t) (same_joins k)
joined_has_kind join.Zip a b n k (x, y, e) s t = ap node_kind e ∙ rw (s, t) (ap (λ o. option_and_then paired_kind o) (same_joins k))
joined_has_kind join.Merge a b n k (x, y, e) s t = ap node_kind e ∙ rw (s, t) (ap (λ o. option_and_then merged_kind o) (same_joins k))

-- the rows of a stream's files: that of the path, and behind it that of the second side
abbrev pub file_rows : ℕ → Option Second → List ℕ
file_rows place None = place ∷ []
file_rows place (Some second) = place ∷ (place + 1) ∷ []

core_reads : (place : ℕ) (steps : List Step) (o : Option Second) (n : Node) → IsCore place steps o n → Reads (file_rows place o) n
core_reads place steps None n behind = side_reads place steps n behind
core_reads place steps (Some second) n (a, b, m, left, right, both, behind) =
    alike_reads (place ∷ (place + 1) ∷ []) m n (steps_alike second.after m n behind)
    (joined_reads second.join a b m place (place + 1) both (side_reads place steps a left) (side_reads (place + 1) steps b right))

core_count : (place : ℕ) (steps : List Step) (o : Option Second) (n : Node) → IsCore place steps o n → node_count n ≤ 2 * length steps + length (steps_behind o) + 3
core_count place steps None n behind = let count : node_count n ≡ 1 + length steps = steps_count steps (Read place) n behind in omega (arith, count)
core_count place steps (Some second) n (a, b, m, left, right, both, behind) =
    let first : node_count a ≡ 1 + length steps = steps_count steps (Read place) a left in
    let next : node_count b ≡ 1 + length steps = steps_count steps (Read (place + 1)) b right in
    let whole : node_count n ≡ node_count m + length second.after = steps_count second.after m n behind in
    omega (arith, first, next, whole, joined_count second.join a b m both)

-- the kind of a core, as it is read
core_kind : (place k : ℕ) (steps : List Step) (o : Option Second) (n : Node) (given : Kind) → IsCore place steps o n → kind_given k steps o ≡ Ok given → node_kind n ≡ Some given
core_kind place k steps o n given core fits = go o core (kind_from k 0 steps kind.Bytes) refl fits
  where
    behind_join : (second : Second) (m : Node) (l : Option Kind) → IsBehind second.after m n → node_kind m ≡ l
        → (present l refused.KindClash (AtStep k (length steps)) >>= kind_from k (length steps + 1) second.after) ≡ Ok given → node_kind n ≡ Some given
    behind_join second m None behind is h = absurd (no_kind _ given h)
    behind_join second m (Some l) behind is h = steps_kind second.after m n k (length steps + 1) l given is h behind

    of_second : (p : Option Second) → IsCore place steps p n → (j : Kind) → kind_from k 0 steps kind.Bytes ≡ Ok j → kind_of_second k (length steps) p j ≡ Ok given → node_kind n ≡ Some given
    of_second None behind j read h = steps_kind steps (Read place) n k 0 kind.Bytes given refl (read ∙ h) behind
    of_second (Some second) (a, b, m, left, right, both, behind) j read h =
        behind_join second m (kind_joined second.join j) behind
        (joined_has_kind second.join a b m j both (steps_kind steps (Read place) a k 0 kind.Bytes j refl read left) (steps_kind steps (Read (place + 1)) b k 0 kind.Bytes j refl read right)) h

    go : (p : Option Second) → IsCore place steps p n → (r : Reading Kind) → kind_from k 0 steps kind.Bytes ≡ r → (r >>= kind_of_second k (length steps) p) ≡ Ok given → node_kind n ≡ Some given
    go p c (Ok j) read h = of_second p c j read h
    go p c (Err e) read h = absurd (no_kind e given h)

-- a node behind the acquisition of a row
weak_seen : (p : ℕ) (b : Boxed) (ps rs ws us : List ℕ) (count : ℕ) (a n : Node) → n ≡ Weak' p b a → IsSeen ps rs ws us count a → IsSeen (p ∷ ps) rs ws us count n
weak_seen p b ps rs ws us count a n e seen = subst (λ m. IsSeen (p ∷ ps) rs ws us count m) (sym e) (record {
  places = ap (λ qs. p ∷ qs) seen.places;
  reads = seen.reads;
  writes = seen.writes;
  uses = seen.uses;
  scopes = seen.scopes;
})

-- the body of a stream, whose path has this row
pub record IsBodySeen (place : ℕ) (s : StreamSpec) (n : Node) : Type 0 where
  pub seen : IsSeen (file_rows place s.second) (file_rows place s.second) [] (file_rows place s.second) 0 n
  pub inside : (qs : List ℕ) → is_inside qs n ≡ true
  pub few : node_count n ≤ 2 * length s.steps + length (steps_behind s.second) + 5

beside_seen : (place : ℕ) (o : Option Second) (a m n : Node) (b : Boxed) → IsBeside place o a m → n ≡ Weak' place b m → Reads (file_rows place o) a → IsSeen (file_rows place o) (file_rows place o) [] (file_rows place o) 0 n
beside_seen place None a m n b d e seen =
    weak_seen place b [] (place ∷ []) [] (place ∷ []) 0 m n e (subst (λ x. Reads (place ∷ []) x) (sym d) seen)
beside_seen place (Some second) a m n b (c, d) e seen =
    let rows = place ∷ (place + 1) ∷ [] in
    weak_seen place b ((place + 1) ∷ []) rows [] rows 0 m n e (weak_seen (place + 1) c [] rows [] rows 0 a m d seen)

-- a row is among those that begin with it
pub among_first : (p : ℕ) (qs : List ℕ) → any (nat_eq p) (p ∷ qs) ≡ true
among_first p qs = or_left (nat_eq p p) (any (nat_eq p) qs) (itself p)

beside_inside : (place : ℕ) (steps : List Step) (o : Option Second) (a m n : Node) (b : Boxed) (qs : List ℕ) → IsCore place steps o a → IsBeside place o a m → n ≡ Weak' place b m → is_inside qs n ≡ true
beside_inside place steps None a m n b qs core d e =
    ap (is_inside qs) e ∙ ap (is_inside (place ∷ qs)) d ∙ (steps_alike steps (Read place) a core).inside (place ∷ qs) ∙ among_first place qs
beside_inside place steps (Some second) a m n b qs (l, r, j, left, right, both, behind) (c, d) e =
    let rows = (place + 1) ∷ place ∷ qs in
    ap (is_inside qs) e ∙ (ap (is_inside (place ∷ qs)) d ∙ ((steps_alike second.after j a behind).inside rows ∙ (joined_inside second.join l r j rows both
    ∙ rw (
      (steps_alike steps (Read place) l left).inside rows,
      (steps_alike steps (Read (place + 1)) r right).inside rows,
      or_right (nat_eq place (place + 1)) (any (nat_eq place) (place ∷ qs)) (among_first place qs),
      among_first (place + 1) (place ∷ qs),
    ) refl)))

beside_count : (place : ℕ) (o : Option Second) (a m n : Node) (b : Boxed) → IsBeside place o a m → n ≡ Weak' place b m → node_count n ≤ node_count a + 2
beside_count place None a m n b d e = omega (arith, ap node_count e, ap node_count d)
beside_count place (Some second) a m n b (c, d) e = omega (arith, ap node_count e, ap node_count d)

pub body_seen : (place : ℕ) (s : StreamSpec) (n : Node) → IsBody place s n → IsBodySeen place s n
body_seen place s n (a, m, b, core, beside, e) = record {
  seen = beside_seen place s.second a m n b beside e (core_reads place s.steps s.second a core);
  inside = λ qs. beside_inside place s.steps s.second a m n b qs core beside e;
  few = omega (arith, core_count place s.steps s.second a core, beside_count place s.second a m n b beside e);
}

beside_kind : (place : ℕ) (o : Option Second) (a m : Node) → IsBeside place o a m → node_kind m ≡ node_kind a
beside_kind place None a m d = ap node_kind d
beside_kind place (Some second) a m (c, d) = ap node_kind d

-- the body of a stream has the kind of what the stream gives
pub body_kind : (place k : ℕ) (s : StreamSpec) (n : Node) (given : Kind) → IsBody place s n → kind_given k s.steps s.second ≡ Ok given → node_kind n ≡ Some given
body_kind place k s n given (a, m, b, core, beside, e) fits = ap node_kind e ∙ beside_kind place s.second a m beside ∙ core_kind place k s.steps s.second a given core fits
