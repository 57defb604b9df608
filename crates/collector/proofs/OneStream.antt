-- The messages of one stream, and the end that is the last of them.
use Rattle.std.proofs.Common.{◌≡◌, ◌≢◌, ℕ, Bool, true, false, List, [], ◌∷◌, ◌++◌, refl, sym, ◌∙◌, ap, subst, cond}
use Rattle.std.specs.Prelude.{nat_eq}
use Rattle.std.proofs.lemmas.List.Elements.{filter-append}
use Rattle.chunk_core.specs.declared.code.How.{How}
use Rattle.chunk_core.specs.declared.load.Load.{Load}
use Rattle.chunk_core.proofs.Bools.{itself, number}
use Rattle.channel_bounded.specs.Streams.{of_stream}
use Rattle.channel_bounded.specs.declared.message.Body.TheVariants as body
use Rattle.channel_bounded.specs.declared.message.Msg.{Msg}
use Rattle.stream_jobs.specs.Messages.{end_message, load_message, load_messages}

-- what is got more is of its stream
pub of_more : (k : ℕ) (xs ys : List Msg) → of_stream k (xs ++ ys) ≡ of_stream k xs ++ of_stream k ys
of_more k xs ys = filter-append (λ m. nat_eq m.stream k) xs ys

pub of_own : (m : Msg) (k : ℕ) (xs : List Msg) → m.stream ≡ k → of_stream k (m ∷ xs) ≡ m ∷ of_stream k xs
of_own m k xs e = ap (λ b. cond b (m ∷ of_stream k xs) (of_stream k xs)) (subst (λ j. nat_eq j k ≡ true) (sym e) (itself k))

pub of_other : (m : Msg) (k : ℕ) (xs : List Msg) → m.stream ≢ k → of_stream k (m ∷ xs) ≡ of_stream k xs
of_other m k xs ne = go (nat_eq m.stream k) refl
  where
    go : (b : Bool) → nat_eq m.stream k ≡ b → of_stream k (m ∷ xs) ≡ of_stream k xs
    go true e = absurd (ne (number m.stream k e))
    go false e = ap (λ b. cond b (m ∷ of_stream k xs) (of_stream k xs)) e

-- the messages of another stream
pub of_rest : (had : List Msg) (m : Msg) (k : ℕ) → m.stream ≢ k → of_stream k (had ++ m ∷ []) ≡ of_stream k had
of_rest had m k ne = of_more k had (m ∷ []) ∙ (ap (λ l. of_stream k had ++ l) (of_other m k [] ne) ∙ nil (of_stream k had))
  where
    nil : (xs : List Msg) → xs ++ [] ≡ xs
    nil [] = refl
    nil (x ∷ xs) = ap (λ l. x ∷ l) (nil xs)

pub head_is : {A : Type 0} (x y : A) (xs ys : List A) → x ∷ xs ≡ y ∷ ys → x ≡ y
head_is x y xs ys e = cc

pub tail_is : {A : Type 0} (x y : A) (xs ys : List A) → x ∷ xs ≡ y ∷ ys → xs ≡ ys
tail_is x y xs ys e = cc

no_more : {A : Type 0} (xs : List A) (x : A) (ys : List A) → xs ++ x ∷ ys ≡ [] → ⊥
no_more [] x ys e = cc
no_more (z ∷ xs) x ys e = cc

pub none_more : {A : Type 0} (xs ys : List A) → xs ++ ys ≡ xs → ys ≡ []
none_more [] ys e = e
none_more (x ∷ xs) ys e = none_more xs ys (tail_is x x (xs ++ ys) xs e)

pub no_cons : {A : Type 0} (x : A) (xs : List A) → x ∷ xs ≡ [] → ⊥
no_cons x xs e = cc

end_no_load : (j k : ℕ) (h : How) (l : Load) → end_message j h ≡ load_message k l → ⊥
end_no_load j k h l e = let f : body.End h ≡ body.Load l = ap (λ (m : Msg). m.body) e in cc

pub how_is : (j k : ℕ) (h g : How) → end_message j h ≡ end_message k g → h ≡ g
how_is j k h g e = let f : body.End h ≡ body.End g = ap (λ (m : Msg). m.body) e in cc

-- an end among loads and the end behind them is that one, and nothing came behind it
pub end_last : (k : ℕ) (loads : List Load) (g : How) (xs q : List Msg) (j : ℕ) (h : How) → xs ++ end_message j h ∷ q ≡ load_messages k loads ++ end_message k g ∷ []
    → (h ≡ g) × (q ≡ []) × (xs ≡ load_messages k loads)
end_last k [] g [] q j h e = (how_is j k h g (head_is (end_message j h) (end_message k g) q [] e), tail_is (end_message j h) (end_message k g) q [] e, refl)
end_last k [] g (x ∷ xs) q j h e = absurd (no_more xs (end_message j h) q (tail_is x (end_message k g) (xs ++ end_message j h ∷ q) [] e))
end_last k (l ∷ ls) g [] q j h e = absurd (end_no_load j k h l (head_is (end_message j h) (load_message k l) q (load_messages k ls ++ end_message k g ∷ []) e))
end_last k (l ∷ ls) g (x ∷ xs) q j h e =
    let r = end_last k ls g xs q j h (tail_is x (load_message k l) (xs ++ end_message j h ∷ q) (load_messages k ls ++ end_message k g ∷ []) e) in
    let head = head_is x (load_message k l) (xs ++ end_message j h ∷ q) (load_messages k ls ++ end_message k g ∷ []) e in
    (r.0, r.1, ap (λ y. y ∷ xs) head ∙ ap (λ ys. load_message k l ∷ ys) r.2)
