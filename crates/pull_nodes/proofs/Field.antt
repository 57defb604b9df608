-- What holds of the pipe of one field, and of each pipe that makes something of each element up to the first of which it can't.
use Rattle.std.proofs.Common.{◌≡◌, ℕ, List, [], ◌∷◌, ◌++◌, Option, Some, None, refl, ap, inl}
use Rattle.chunk_core.specs.Elements.{Element}
use Rattle.chunk_core.specs.Elements.LoadKind.{Lines, Rows}
use Rattle.chunk_core.specs.Feed.{Given}
use Rattle.chunk_core.specs.declared.code.Code.{Code}
use Rattle.pull_nodes.specs.Field.{or_no_field, each_made, field_line, field_rule}
use Rattle.pull_nodes.specs.Laws.{IsNoDeviceFault}
use Rattle.pull_nodes.proofs.Fronts.{front_same}
use Rattle.pull_nodes.proofs.Lawful.{IsLawful, own_none, own_no_field}
use Rattle.pull_nodes.proofs.Steady.{SteadyBy}

module _ (made : Element → Option Element) where
  next_same : (o : Option Element) (a b : Given) (c : Code) → (or_no_field o a).fault ≡ Some c → (a.fault ≡ Some c → b ≡ a) → or_no_field o b ≡ or_no_field o a
  next_same None a b c h more = refl
  next_same (Some y) a b c h more = ap (or_no_field (Some y)) (more h)

  -- behind a fault nothing more is given
  pub each_made-stops : (xs zs : List Element) (c : Code) → (each_made made xs).fault ≡ Some c → each_made made (xs ++ zs) ≡ each_made made xs
  each_made-stops [] zs c h = (cc)
  each_made-stops (x ∷ xs) zs c h = next_same (made x) (each_made made xs) (each_made made (xs ++ zs)) c h (each_made-stops xs zs c)

  -- what is given of one list and then of another
  abbrev pub and_then : Given → Given → Given
  and_then a b = record { list = a.list ++ b.list; fault = b.fault }

  next_then : (o : Option Element) (a b c : Given) → (or_no_field o a).fault ≡ None → (a.fault ≡ None → c ≡ and_then a b) → or_no_field o c ≡ and_then (or_no_field o a) b
  next_then None a b c h more = (cc)
  next_then (Some y) a b c h more = ap (or_no_field (Some y)) (more h)

  -- without a fault the list goes on
  pub each_made-append : (xs zs : List Element) → (each_made made xs).fault ≡ None → each_made made (xs ++ zs) ≡ and_then (each_made made xs) (each_made made zs)
  each_made-append [] zs h = refl
  each_made-append (x ∷ xs) zs h = next_then (made x) (each_made made xs) (each_made made zs) (each_made made (xs ++ zs)) h (each_made-append xs zs)

  pub each_made_steady : SteadyBy (each_made made) (each_made made)
  each_made_steady = record {
    grows = λ xs zs h. ((each_made made zs).list, ap (λ (g : Given). g.list) (each_made-append xs zs h));
    ends = λ xs h. front_same (each_made made xs).list;
    stops = λ xs zs c h. (each_made-stops xs zs c h, each_made-stops xs zs c h);
  }

  own_next : (o : Option Element) (a : Given) → IsNoDeviceFault a.fault → IsNoDeviceFault (or_no_field o a).fault
  own_next None a own = own_no_field
  own_next (Some y) a own = own

  pub each_made_own : (xs : List Element) → IsNoDeviceFault (each_made made xs).fault
  each_made_own [] = own_none
  each_made_own (x ∷ xs) = own_next (made x) (each_made made xs) (each_made_own xs)

pub field_lawful : (i : ℕ) → IsLawful (field_rule i)
field_lawful i = record {
  steady = each_made_steady (field_line i);
  own = λ xs. (each_made_own (field_line i) xs, each_made_own (field_line i) xs);
  empty = refl;
  behind_nothing = inl (Rows, Lines, refl, refl);
}
