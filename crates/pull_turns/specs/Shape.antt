-- What is left of a node consists of parts, and of nodes that weren't entered.
use Rattle.pull_nodes.specs.declared.node.Node.{Node}
use Rattle.pull_turns.specs.declared.rest.Rest.{Rest}
use Rattle.pull_turns.specs.declared.rest.Rest.TheVariants.{Nil, Start, Read, Within', Then', Through', Finishing, Faulty, Groups', Take', Into', Zip', Merge'}

-- a value of what is left: `none` is that of no part, `both` puts those of two parts together, `unentered` is that of a node that wasn't entered, and `own` adds what the part itself is
module _ {ℓ} {F : Type 0} {A : Type ℓ} (none : A) (both : A → A → A) (unentered : Node → A) (own : Rest F → A → A) where
  abbrev pub rest_folded : Rest F → A
  rest_folded Nil = own Nil none
  rest_folded (Start n) = unentered n
  rest_folded (Read p from) = own (Read p from) none
  rest_folded (Within' s q a) = own (Within' s q a) (rest_folded a)
  rest_folded (Then' w q a b) = own (Then' w q a b) (both (rest_folded a) (unentered b.value))
  rest_folded (Through' q a f) = own (Through' q a f) (rest_folded a)
  rest_folded (Finishing f) = own (Finishing f) none
  rest_folded (Faulty c) = own (Faulty c) none
  rest_folded (Groups' n f q a) = own (Groups' n f q a) (rest_folded a)
  rest_folded (Take' n q a) = own (Take' n q a) (rest_folded a)
  rest_folded (Into' p v q a) = own (Into' p v q a) (rest_folded a)
  rest_folded (Zip' z p a q b) = own (Zip' z p a q b) (both (rest_folded a) (rest_folded b))
  rest_folded (Merge' m p a q b) = own (Merge' m p a q b) (both (rest_folded a) (rest_folded b))
