-- Nodes of one stream run alike.
use Rattle.std.proofs.Common.{◌≡◌, ℕ, ◌+◌, List, [], ◌∷◌, Option, Some, None, refl, ap, ◌∙◌, sym, subst}
use Rattle.std.specs.Prelude.{◌↔◌, option_and_then, option_map}
use Rattle.chunk_core.specs.Elements.{Element}
use Rattle.chunk_core.specs.Outcomes.{End, Done, Outcomes}
use Rattle.chunk_core.specs.Tables.{Values}
use Rattle.device_port.specs.Device.{DeviceTold}
use Rattle.pull_nodes.specs.Kinds.{kind_behind, kind_of_sides, merged_kind, node_kind, paired_kind}
use Rattle.pull_nodes.specs.Pipes.{all_of, part_of}
use Rattle.pull_nodes.specs.Runs.{Follows, Gives, IsFault, IsIdealRun, IsIdle, IsRun, IsUnwritten, Leeway, Merged, Piped, Taken, Zipped, any_leeway, no_leeway}
use Rattle.pull_nodes.specs.declared.kind.Kind.{Kind}
use Rattle.pull_nodes.specs.declared.kind.Kind.TheVariants as kind
use Rattle.pull_nodes.specs.declared.node.Node.{Node}
use Rattle.pull_nodes.specs.declared.node.Node.TheVariants.{Emit, Read, Weak', Into'}
use Rattle.pipeline_desc.specs.Laws.{NodesRunAlike, RunAlike}
use Rattle.pipeline_desc.specs.Meant.{PlanMeant}
use Rattle.pipeline_desc.specs.Nodes.{Boxed, IsBehind, IsBehindStep, IsBeside, IsBody, IsCore, IsJoined, IsNodeOf, IsOrText, IsStreamNode, IsWritten, load_of, path_row}
use Rattle.pipeline_desc.specs.Places.{first_row}
use Rattle.pipeline_desc.specs.declared.join.Join.{Join}
use Rattle.pipeline_desc.specs.declared.join.Join.TheVariants as join
use Rattle.pipeline_desc.specs.declared.step.Step.{Step}
use Rattle.pipeline_desc.specs.declared.step.Step.TheVariants as step
use Rattle.pipeline_desc.specs.declared.stream.Second.{Second}
use Rattle.pipeline_desc.specs.declared.stream.StreamSpec.{StreamSpec}

module _ (l : Leeway) (t : Values) (w : ℕ → DeviceTold) where
  -- two nodes give the same, and have one kind
  pub record GiveAlike (m n : Node) : Type 1 where
    pub gives : Gives l t w m ≡ Gives l t w n
    pub idle : IsIdle w m ≡ IsIdle w n
    pub kind : node_kind m ≡ node_kind n

  itself : (n : Node) → GiveAlike n n
  itself n = record { gives = refl; idle = refl; kind = refl }

  -- so do nodes that equal such
  along : (a b m n : Node) → m ≡ a → n ≡ b → GiveAlike a b → GiveAlike m n
  along a b m n d e h = subst (λ x. GiveAlike x n) (sym d) (subst (λ y. GiveAlike a y) (sym e) h)

  -- they are left alike
  left_alike : (m n : Node) → GiveAlike m n → l.left (IsIdle w m) (Gives l t w m) ≡ l.left (IsIdle w n) (Gives l t w n)
  left_alike m n h = ap (λ I. l.left I (Gives l t w m)) h.idle ∙ ap (λ G. l.left (IsIdle w n) G) h.gives

  both_idle : (a b c d : Node) → GiveAlike a c → GiveAlike b d → (IsIdle w a × IsIdle w b) ≡ (IsIdle w c × IsIdle w d)
  both_idle a b c d h k = ap (λ I. I × IsIdle w b) h.idle ∙ ap (λ I. IsIdle w c × I) k.idle

  step_alike : (s : Step) (a b m n : Node) → GiveAlike a b → IsBehindStep s a m → IsBehindStep s b n → GiveAlike m n
  step_alike (step.Take k) a b m n h (x, d) (y, e) =
      along _ _ m n d e (record { gives = ap (λ A. Taken k A) (left_alike a b h); idle = h.idle; kind = h.kind })
  step_alike (step.Pipe q) a b m n h (x, d) (y, e) =
      along _ _ m n d e (record { gives = ap (λ A. Piped (part_of t q) (all_of t q) A) (left_alike a b h); idle = h.idle; kind = ap (kind_behind q) h.kind })

  steps_alike : (steps : List Step) (a b m n : Node) → GiveAlike a b → IsBehind steps a m → IsBehind steps b n → GiveAlike m n
  steps_alike [] a b m n h d e = along a b m n d e h
  steps_alike (s ∷ steps) a b m n h (x, d, f) (y, e, g) = steps_alike steps x y m n (step_alike s a b x y h d e) f g

  joined_alike : (j : Join) (a b c d m n : Node) → GiveAlike a c → GiveAlike b d → IsJoined j a b m → IsJoined j c d n → GiveAlike m n
  joined_alike join.Append a b c d m n h k (x, y, e) (u, v, f) =
      along _ _ m n e f (record {
        gives = ap (λ A. Follows (λ g. g ≡ Done) A (l.left (IsIdle w b) (Gives l t w b)) (IsIdle w b)) (left_alike a c h)
            ∙ (ap (λ B. Follows (λ g. g ≡ Done) (l.left (IsIdle w c) (Gives l t w c)) B (IsIdle w b)) (left_alike b d k)
            ∙ ap (λ I. Follows (λ g. g ≡ Done) (l.left (IsIdle w c) (Gives l t w c)) (l.left (IsIdle w d) (Gives l t w d)) I) k.idle);
        idle = both_idle a b c d h k;
        kind = ap (λ o. kind_of_sides o (node_kind b)) h.kind ∙ ap (λ o. kind_of_sides (node_kind c) o) k.kind;
      })
  joined_alike join.Zip a b c d m n h k (x, y, e) (u, v, f) =
      along _ _ m n e f (record {
        gives = ap (λ A. Zipped A (l.left (IsIdle w b) (Gives l t w b))) (left_alike a c h) ∙ ap (λ B. Zipped (l.left (IsIdle w c) (Gives l t w c)) B) (left_alike b d k);
        idle = both_idle a b c d h k;
        kind = ap (λ o. option_and_then paired_kind (kind_of_sides o (node_kind b))) h.kind ∙ ap (λ o. option_and_then paired_kind (kind_of_sides (node_kind c) o)) k.kind;
      })
  joined_alike join.Merge a b c d m n h k (x, y, e) (u, v, f) =
      along _ _ m n e f (record {
        gives = ap (λ A. Merged A (IsIdle w a) (l.left (IsIdle w b) (Gives l t w b)) (IsIdle w b)) (left_alike a c h)
            ∙ (ap (λ I. Merged (l.left (IsIdle w c) (Gives l t w c)) I (l.left (IsIdle w b) (Gives l t w b)) (IsIdle w b)) h.idle
            ∙ (ap (λ B. Merged (l.left (IsIdle w c) (Gives l t w c)) (IsIdle w c) B (IsIdle w b)) (left_alike b d k)
            ∙ ap (λ I. Merged (l.left (IsIdle w c) (Gives l t w c)) (IsIdle w c) (l.left (IsIdle w d) (Gives l t w d)) I) k.idle));
        idle = both_idle a b c d h k;
        kind = ap (λ o. option_and_then merged_kind (kind_of_sides o (node_kind b))) h.kind ∙ ap (λ o. option_and_then merged_kind (kind_of_sides (node_kind c) o)) k.kind;
      })

  core_alike : (place : ℕ) (steps : List Step) (o : Option Second) (m n : Node) → IsCore place steps o m → IsCore place steps o n → GiveAlike m n
  core_alike place steps None m n f g = steps_alike steps (Read place) (Read place) m n (itself (Read place)) f g
  core_alike place steps (Some second) m n (a, b, x, f, g, i, j) (c, d, y, f', g', i', j') =
      steps_alike second.after x y m n
      (joined_alike second.join a b c d x y (steps_alike steps (Read place) (Read place) a c (itself (Read place)) f f')
      (steps_alike steps (Read (place + 1)) (Read (place + 1)) b d (itself (Read (place + 1))) g g') i i') j j'

  weak_alike : (p : ℕ) (b c : Boxed) (a d m n : Node) → m ≡ Weak' p b a → n ≡ Weak' p c d → GiveAlike a d → GiveAlike m n
  weak_alike p b c a d m n e f h =
      along _ _ m n e f (record {
        gives = ap (λ A. l.opens (w p) A (IsIdle w a)) (left_alike a d h) ∙ ap (λ I. l.opens (w p) (l.left (IsIdle w d) (Gives l t w d)) I) h.idle;
        idle = h.idle;
        kind = h.kind;
      })

  beside_alike : (place : ℕ) (o : Option Second) (a b m n : Node) → IsBeside place o a m → IsBeside place o b n → GiveAlike a b → GiveAlike m n
  beside_alike place None a b m n e f h = along a b m n e f h
  beside_alike place (Some second) a b m n (x, e) (y, f) h = weak_alike (place + 1) x y a b m n e f h

  body_alike : (place : ℕ) (s : StreamSpec) (m n : Node) → IsBody place s m → IsBody place s n → GiveAlike m n
  body_alike place s m n (a, c, x, f, i, e) (b, d, y, g, j, k) = weak_alike place x y c d m n e k (beside_alike place s.second a b c d i j (core_alike place s.steps s.second a b f g))

  -- so are they in a scope
  scope_left : (m n : Node) → GiveAlike m n → l.left (IsIdle w m) (l.left (IsIdle w m) (Gives l t w m)) ≡ l.left (IsIdle w n) (l.left (IsIdle w n) (Gives l t w n))
  scope_left m n h = ap (λ I. l.left I (l.left (IsIdle w m) (Gives l t w m))) h.idle ∙ ap (λ G. l.left (IsIdle w n) G) (left_alike m n h)

  or_text_alike : (k : Kind) (o : Option (List ℕ)) (a b m n : Node) → GiveAlike a b → IsOrText k o a m → IsOrText k o b n → GiveAlike m n
  or_text_alike k None a b m n h d e = along a b m n d e h
  or_text_alike k (Some text) a b m n h (x, y, z, d) (u, v, o, e) =
      along _ _ m n d e (record {
        gives = ap (λ A. Follows IsFault A (l.left (IsIdle w (Emit (load_of k text))) (Gives l t w (Emit (load_of k text)))) (IsIdle w (Emit (load_of k text)))) (scope_left a b h);
        idle = ap (λ I. I × IsIdle w (Emit (load_of k text))) h.idle;
        kind = ap (λ j. kind_of_sides j (node_kind (Emit (load_of k text)))) h.kind;
      })

  into_alike : (p : ℕ) (b c : Boxed) (a d : Node) → GiveAlike a d → GiveAlike (Into' p b a) (Into' p c d)
  into_alike p b c a d h = record {
    gives = ap (λ A. l.writes (w p) A) (left_alike a d h);
    idle = ap (λ I. IsUnwritten (w p) × I) h.idle;
    kind = ap (λ o. option_map (λ j. kind.Any) o) h.kind;
  }

  written_alike : (p : ℕ) (o : Option (List ℕ)) (a b m n : Node) → GiveAlike a b → IsWritten p o a m → IsWritten p o b n → GiveAlike m n
  written_alike p None a b m n h d e = along a b m n d e h
  written_alike p (Some to) a b m n h (x, y, d) (u, v, e) = weak_alike p x u (Into' p y a) (Into' p v b) m n d e (into_alike p y v a b h)

  pub stream_alike : (place : ℕ) (s : StreamSpec) (m n : Node) → IsStreamNode place s m → IsStreamNode place s n → GiveAlike m n
  stream_alike place s m n (a, x, j, f, is, d, i) (b, y, k, g, are, e, q) =
      let h = body_alike (path_row place s) s a b f g in
      let both : Some j ≡ Some k = sym is ∙ h.kind ∙ are in
      let same : j ≡ k = cc in
      written_alike place s.to x y m n (or_text_alike k s.on_fault a b x y h (subst (λ z. IsOrText z s.on_fault a x) same d) e) i q

  pub node_alike : (p : PlanMeant) (k : ℕ) (m n : Node) → IsNodeOf p k m → IsNodeOf p k n → GiveAlike m n
  node_alike p k m n d e =
      let (r, is, one) = d [] in
      let (s, are, other) = e [] in
      let both : Some r ≡ Some s = sym is ∙ are in
      let same : r ≡ s = cc in
      stream_alike (first_row p k) s m n (subst (λ x. IsStreamNode (first_row p k) x m) same one) other

-- the same relations, either way
same_outcomes : (R S : Outcomes) → R ≡ S → (ys : List Element) (e : End) → R ys e ↔ S ys e
same_outcomes R S same ys e = (λ r. subst (λ (T : Outcomes). T ys e) same r, λ r. subst (λ (T : Outcomes). T ys e) (sym same) r)

run_alike : (m n : Node) → ((l : Leeway) (t : Values) (w : ℕ → DeviceTold) → GiveAlike l t w m n) → RunAlike m n
run_alike m n h = record {
  runs = λ t w. same_outcomes (IsRun t w m) (IsRun t w n) (run_same t w (h any_leeway t w));
  ideal_runs = λ t w. same_outcomes (IsIdealRun t w m) (IsIdealRun t w n) (h no_leeway t w).gives;
}
  where
    run_same : (t : Values) (w : ℕ → DeviceTold) → GiveAlike any_leeway t w m n → IsRun t w m ≡ IsRun t w n
    run_same t w g = left_alike any_leeway t w m n g

pub nodes_run_alike : NodesRunAlike
nodes_run_alike p k m n d e = run_alike m n (λ l t w. node_alike l t w p k m n d e)
