-- One move more.
use Rattle.std.proofs.Common.{◌≡◌, List, [], ◌∷◌, ◌++◌, append_assoc, append-nil, flat_map, length, map, refl, sym, ◌∙◌, ap, subst}
use Rattle.std.proofs.lemmas.List.{length-append}
use Rattle.std.proofs.lemmas.Grind.{flat_map-append}
use Rattle.device_port.specs.Device.{DeviceTold}
use Rattle.device_port.specs.Depot.{DepotTold}
use Rattle.pipeline_desc.specs.Meant.{PlanMeant}
use Rattle.dealt_streams.specs.Moves.{AreMoved, Move, Moves, Tried, Tries, contents_in, dealt_in, dealt_of, lines_in, lines_of, opened_in, opened_of, tried_in, tried_of}
use Rattle.dealt_streams.specs.Moves.Move.{Dealt, Gave, Opened, Read}
use Rattle.dealt_streams.specs.Parts.{Part}

flat_snoc : {A B : Type 0} (f : A → List B) (xs : List A) (x : A) → flat_map f (xs ++ x ∷ []) ≡ flat_map f xs ++ f x
flat_snoc f xs x = flat_map-append f xs (x ∷ []) ∙ ap (λ l. flat_map f xs ++ l) (append-nil (f x))

-- tables alone were tried
abbrev pub reads : {V F : Type 0} → List (Tried V) → List (Move V F)
reads xs = map Read xs

read_tried : {V : Type 0} (F : Type 0) (xs : List (Tried V)) → tried_of (reads {F = F} xs) ≡ xs
read_tried F [] = refl
read_tried F (x ∷ xs) = ap (λ l. x ∷ l) (read_tried F xs)

read_lines : {V : Type 0} (F : Type 0) (xs : List (Tried V)) → lines_of (reads {F = F} xs) ≡ []
read_lines F [] = refl
read_lines F (x ∷ xs) = read_lines F xs

read_dealt : {V : Type 0} (F : Type 0) (xs : List (Tried V)) → dealt_of (reads {F = F} xs) ≡ []
read_dealt F [] = refl
read_dealt F (x ∷ xs) = read_dealt F xs

read_opened : {V : Type 0} (F : Type 0) (xs : List (Tried V)) → opened_of (reads {F = F} xs) ≡ []
read_opened F [] = refl
read_opened F (x ∷ xs) = read_opened F xs

module _ {V F : Type 0} where
  pub tried_snoc : (ms : List (Move V F)) (m : Move V F) → tried_of (ms ++ m ∷ []) ≡ tried_of ms ++ tried_in m
  tried_snoc ms m = flat_snoc tried_in ms m

  pub lines_snoc : (ms : List (Move V F)) (m : Move V F) → lines_of (ms ++ m ∷ []) ≡ lines_of ms ++ lines_in m
  lines_snoc ms m = flat_snoc lines_in ms m

  pub dealt_snoc : (ms : List (Move V F)) (m : Move V F) → dealt_of (ms ++ m ∷ []) ≡ dealt_of ms ++ dealt_in m
  dealt_snoc ms m = flat_snoc dealt_in ms m

  pub opened_snoc : (ms : List (Move V F)) (m : Move V F) → opened_of (ms ++ m ∷ []) ≡ opened_of ms ++ opened_in m
  opened_snoc ms m = flat_snoc opened_in ms m

  module _ (ms : List (Move V F)) (xs : List (Tried V)) where
    pub tried_more : tried_of (ms ++ reads xs) ≡ tried_of ms ++ xs
    tried_more = flat_map-append tried_in ms (reads xs) ∙ ap (λ l. tried_of ms ++ l) (read_tried F xs)

    pub lines_more : lines_of (ms ++ reads xs) ≡ lines_of ms
    lines_more = flat_map-append lines_in ms (reads xs) ∙ (ap (λ l. lines_of ms ++ l) (read_lines F xs) ∙ append-nil (lines_of ms))

    pub dealt_more : dealt_of (ms ++ reads xs) ≡ dealt_of ms
    dealt_more = flat_map-append dealt_in ms (reads xs) ∙ (ap (λ l. dealt_of ms ++ l) (read_dealt F xs) ∙ append-nil (dealt_of ms))

    pub opened_more : opened_of (ms ++ reads xs) ≡ opened_of ms
    opened_more = flat_map-append opened_in ms (reads xs) ∙ (ap (λ l. opened_of ms ++ l) (read_opened F xs) ∙ append-nil (opened_of ms))

  module _ (ms : List (Move V F)) (x : Part V F) where
    pub tried_dealt : tried_of (ms ++ Dealt x ∷ []) ≡ tried_of ms
    tried_dealt = tried_snoc ms (Dealt x) ∙ append-nil (tried_of ms)

    pub lines_dealt : lines_of (ms ++ Dealt x ∷ []) ≡ lines_of ms
    lines_dealt = lines_snoc ms (Dealt x) ∙ append-nil (lines_of ms)

    pub opened_dealt : opened_of (ms ++ Dealt x ∷ []) ≡ opened_of ms
    opened_dealt = opened_snoc ms (Dealt x) ∙ append-nil (opened_of ms)

  module _ (told : V → DeviceTold) (p : PlanMeant) where
    pub moved_append : (before : List (Move V F)) (old mid new : DepotTold) (ms ns : List (Move V F)) → AreMoved told p before old ms mid → AreMoved told p (before ++ ms) mid ns new → AreMoved told p before old (ms ++ ns) new
    moved_append before old mid new [] ns h i = subst (λ (d : DepotTold). AreMoved told p before d ns new) h (subst (λ l. AreMoved told p l mid ns new) (append-nil before) i)
    moved_append before old mid new (m ∷ ms) ns h i = (h.0, h.1, moved_append (before ++ m ∷ []) h.0 mid new ms ns h.2 (subst (λ l. AreMoved told p l mid ns new) (sym (append_assoc before (m ∷ []) ms)) i))

    pub moved_snoc : (old mid new : DepotTold) (ms : List (Move V F)) (m : Move V F) → AreMoved told p [] old ms mid → Moves told p ms mid new m → AreMoved told p [] old (ms ++ m ∷ []) new
    moved_snoc old mid new ms m h i = moved_append [] old mid new ms (m ∷ []) h (new, i, refl)

    -- tables were tried, one part after the other
    pub moved_reads : (before : List (Move V F)) (old mid new : DepotTold) (xs : List (Tried V)) (x : Tried V) → AreMoved told p before old (reads xs) mid → Tries told mid new x → AreMoved told p before old (reads (xs ++ x ∷ [])) new
    moved_reads before old mid new [] x h i = (new, subst (λ (d : DepotTold). Tries told d new x) h i, refl)
    moved_reads before old mid new (y ∷ xs) x h i = (h.0, h.1, moved_reads (before ++ Read y ∷ []) h.0 mid new xs x h.2 i)

-- what was read of the tables, and then of one part more
pub contents_snoc : {V : Type 0} (xs : List (Tried V)) (x : Tried V) → contents_in (xs ++ x ∷ []) ≡ contents_in xs ++ x.contents
contents_snoc xs x = flat_snoc (λ (y : Tried _). y.contents) xs x
