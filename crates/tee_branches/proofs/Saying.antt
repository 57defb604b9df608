-- What is said of further elements, and what is received of a further load.
use Rattle.std.proofs.Common.{◌≡◌, ◌<◌, ℕ, List, [], ◌∷◌, ◌++◌, map, length, Option, inl, inr, refl, sym, ap, ◌∙◌, append-nil, append_assoc}
use Rattle.std.specs.List.{AllByRecursion}
use Rattle.chunk_core.specs.Elements.{Bytes, Element, elements, elements_of, kind_of}
use Rattle.chunk_core.specs.declared.load.Load.{Load}
use Rattle.channel_bounded.specs.declared.message.Body.{Body}
use Rattle.channel_bounded.specs.declared.message.Body.TheVariants as body
use Rattle.channel_bounded.specs.declared.message.Msg.{Msg}
use Rattle.run_rules.specs.Outputs.{elements_in_pieces}
use Rattle.tee_branches.specs.Messages.{AreReceived, IsNews, Says, held, text_message}

module _ {A : Type 0} where
  pub all_snoc : (P : A → Type 0) (xs : List A) (x : A) → AllByRecursion P xs → P x → AllByRecursion P (xs ++ x ∷ [])
  all_snoc P [] x h p = (p, tt)
  all_snoc P (y ∷ ys) x h p = (h.0, all_snoc P ys x h.1 p)

pub map_snoc : {A B : Type 0} (f : A → B) (xs : List A) (x : A) → map f (xs ++ x ∷ []) ≡ map f xs ++ f x ∷ []
map_snoc f [] x = refl
map_snoc f (y ∷ ys) x = ap (λ l. f y ∷ l) (map_snoc f ys x)

pub pieces_snoc : (ps : List (List Element)) (p : List Element) → elements_in_pieces (ps ++ p ∷ []) ≡ elements_in_pieces ps ++ p
pieces_snoc [] p = append-nil p
pieces_snoc (q ∷ qs) p = ap (λ l. q ++ l) (pieces_snoc qs p) ∙ sym (append_assoc q (elements_in_pieces qs) p)

pub loads_snoc : (ls : List Load) (l : Load) → elements_of (ls ++ l ∷ []) ≡ elements_of ls ++ elements l
loads_snoc [] l = append-nil (elements l)
loads_snoc (m ∷ ms) l = ap (λ x. elements m ++ x) (loads_snoc ms l) ∙ sym (append_assoc (elements m) (elements_of ms) (elements l))

module _ (k : ℕ) where
  -- nothing was said of nothing
  pub says_none : Says k [] []
  says_none = record { pieces = []; filled = tt; messages = refl; all = refl }

  -- what came is said behind what was said
  pub says_more : (said : List Msg) (ys zs : List Element) (message : Option Msg) → Says k said ys → IsNews k zs message → Says k (said ++ held message) (ys ++ zs)
  says_more said ys zs message s (inl n) = record {
    pieces = s.pieces;
    filled = s.filled;
    messages = ap (λ m. said ++ held m) n.1 ∙ (append-nil said ∙ s.messages);
    all = s.all ∙ (sym (append-nil ys) ∙ ap (λ l. ys ++ l) (sym n.0));
  }
  says_more said ys zs message s (inr n) = record {
    pieces = s.pieces ++ zs ∷ [];
    filled = all_snoc (λ p. 0 < length p) s.pieces zs s.filled n.0;
    messages = ap (λ m. said ++ held m) n.1 ∙ (ap (λ l. l ++ text_message k zs ∷ []) s.messages ∙ sym (map_snoc (text_message k) s.pieces zs));
    all = pieces_snoc s.pieces zs ∙ ap (λ l. l ++ zs) s.all;
  }

-- one load of bytes more
pub received_more : (got : List Body) (xs : List Element) (load : Load) → AreReceived got xs → kind_of load ≡ Bytes → AreReceived (got ++ body.Load load ∷ []) (xs ++ elements load)
received_more got xs load r kind = record {
  loads = r.loads ++ load ∷ [];
  got_is = ap (λ l. l ++ body.Load load ∷ []) r.got_is ∙ sym (map_snoc body.Load r.loads load);
  kinds = all_snoc (λ l. kind_of l ≡ Bytes) r.loads load r.kinds kind;
  all = ap (λ l. l ++ elements load) r.all ∙ sym (loads_snoc r.loads load);
}
