-- What passes a taker.
use Rattle.std.proofs.Common.{◌≡◌, ℕ, ◌+◌, ◌≤◌, nat_le, true, List, [], ◌∷◌, ◌++◌, length, length-append, take, refl, ap, sym, subst, ◌∙◌, arith, append_assoc, if◌then◌else◌}
use Rattle.std.proofs.lemmas.Bool.{le-leb}
use Rattle.std.proofs.lemmas.List.{flat_map_more, take-append-le}
use Rattle.std.proofs.lemmas.List.Concat.{flat_map-append}
use Rattle.std.proofs.lemmas.List.Elements.{All-push}
use Rattle.std.proofs.Math.Seq.{take-append-add}
use Rattle.chunk_core.specs.Elements.{Element, LoadKind, elements, kind_of, elements_of}
use Rattle.chunk_core.specs.Outcomes.{Cut, Done, End}
use Rattle.chunk_core.specs.declared.load.Load.{Load}
use Rattle.any_pipe.specs.Pouring.{AreOf}
use Rattle.chain_pipes.specs.Over.{came, taken}
use Rattle.chain_pipes.specs.Links.{Passes, end_of}
use Rattle.chain_pipes.specs.declared.batch.Batch.{Batch}
use Rattle.chain_pipes.specs.declared.batch.Tail.TheVariants as tail

-- the last that was wanted is in this load
pub taker_ends : (takes : LoadKind) (xs : List Element) (b r : Batch) (before rest : List Load) (load front : Load) (wanted left : ℕ) (Goes : Type 0)
    → b.loads.items ≡ (before ++ load ∷ []) ++ rest → AreOf takes before → kind_of load ≡ takes → kind_of front ≡ kind_of load
    → elements front ≡ take left (elements load) → left ≤ length (elements load) → wanted ≡ length (elements_of before) + left
    → r.loads.items ≡ before ++ front ∷ [] → r.tail ≡ tail.End
    → Passes takes xs (taken (length xs + wanted) (xs ++ elements_of b.loads.items) (end_of b.tail)) r Goes
taker_ends takes xs b r before rest load front wanted left Goes whole are kind same is enough count given ends =
    let eb = elements_of before in
    let el = elements load in
    let er = elements_of rest in
    let all : elements_of b.loads.items ≡ eb ++ (el ++ er) =
    ap elements_of whole ∙ (flat_map-append elements (before ++ load ∷ []) rest ∙ (ap (λ l. l ++ er) (sym (flat_map_more elements [] before load)) ∙ append_assoc eb el er)) in
    let list : take (length xs + wanted) (xs ++ elements_of b.loads.items) ≡ xs ++ elements_of r.loads.items =
    take-append-add xs (elements_of b.loads.items) wanted
    ∙ ap (λ l. xs ++ l) (
    ap (λ l. take wanted l) all
    ∙ (ap (λ n. take n (eb ++ (el ++ er))) count
    ∙ (take-append-add eb (el ++ er) left
    ∙ (ap (λ l. eb ++ l) (take-append-le left el er enough ∙ sym is)
    ∙ (flat_map_more elements [] before front ∙ ap elements_of (sym given))))))
    in
    let long : length xs + wanted ≤ length (xs ++ elements_of b.loads.items) =
    let a = length-append xs (elements_of b.loads.items) in
    let d = ap length all ∙ length-append eb (el ++ er) in
    let f = length-append el er in omega (arith, a, d, f, enough, count) in
    record {
      kinds = subst (λ l. AreOf takes l) (sym given) (All-push (λ l. kind_of l ≡ takes) before front are (same ∙ kind));
      made =
          ap (λ t. if t then came (take (length xs + wanted) (xs ++ elements_of b.loads.items)) Done else came (xs ++ elements_of b.loads.items) (end_of b.tail)) (le-leb (length xs + wanted) (length (xs ++ elements_of b.loads.items)) long)
          ∙ (ap (λ l. came l Done) list ∙ ap (λ t. came (xs ++ elements_of r.loads.items) (end_of t)) (sym ends));
      goes = λ cut. absurd (let no : Done ≡ Cut = sym (ap end_of ends) ∙ cut in cc);
    }
