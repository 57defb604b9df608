-- Messages of one stream among others.
use Rattle.std.proofs.Common.{◌≡◌, ◌≢◌, ℕ, cond, List, [], ◌∷◌, ◌++◌, sym, refl, ap, ◌∙◌, append_assoc, append-nil, eq-eqb, ne_eqb}
use Rattle.std.proofs.lemmas.List.Elements.{filter-append}
use Rattle.chunk_core.specs.Lists.{IsAmong}
use Rattle.chunk_core.specs.Lists.IsAmong.{here, there}
use Rattle.channel_bounded.specs.declared.message.Msg.{Msg}
use Rattle.channel_bounded.specs.Streams.{of_stream, IsWhole}

pub of_stream-append : (k : ℕ) (xs ys : List Msg) → of_stream k (xs ++ ys) ≡ of_stream k xs ++ of_stream k ys
of_stream-append k xs ys = filter-append _ xs ys

pub of_stream-own : (k : ℕ) (m : Msg) → m.stream ≡ k → of_stream k (m ∷ []) ≡ m ∷ []
of_stream-own k m e = ap (λ b. cond b (m ∷ []) []) (eq-eqb m.stream k e)

pub of_stream-other : (k : ℕ) (m : Msg) → m.stream ≢ k → of_stream k (m ∷ []) ≡ []
of_stream-other k m n = ap (λ b. cond b (m ∷ []) []) (ne_eqb m.stream k n)

-- where none is of the stream
pub of_stream-none : (k : ℕ) (xs : List Msg) → ((m : Msg) → IsAmong m xs → m.stream ≢ k) → of_stream k xs ≡ []
of_stream-none k [] n = refl
of_stream-none k (x ∷ xs) n = ap (λ b. cond b (x ∷ of_stream k xs) (of_stream k xs)) (ne_eqb x.stream k (n x (here xs))) ∙ of_stream-none k xs (λ m h. n m (there x h))

-- one more of the stream is queued
pub whole_sent : (k : ℕ) (sent got queued : List Msg) (m : Msg) → m.stream ≡ k → IsWhole k sent got queued → IsWhole k (sent ++ m ∷ []) got (queued ++ m ∷ [])
whole_sent k sent got queued m e w =
    ap (λ l. of_stream k got ++ l) (of_stream-append k queued (m ∷ []) ∙ ap (λ l. of_stream k queued ++ l) (of_stream-own k m e))
    ∙ sym (append_assoc (of_stream k got) (of_stream k queued) (m ∷ [])) ∙ ap (λ l. l ++ m ∷ []) w

-- one more of another stream is queued
pub whole_beside : (k : ℕ) (sent got queued : List Msg) (m : Msg) → m.stream ≢ k → IsWhole k sent got queued → IsWhole k sent got (queued ++ m ∷ [])
whole_beside k sent got queued m n w =
    ap (λ l. of_stream k got ++ l) (of_stream-append k queued (m ∷ []) ∙ ap (λ l. of_stream k queued ++ l) (of_stream-other k m n) ∙ append-nil (of_stream k queued)) ∙ w

-- the first in the queue was got
pub whole_got : (k : ℕ) (sent got queued : List Msg) (m : Msg) → IsWhole k sent got (m ∷ queued) → IsWhole k sent (got ++ m ∷ []) queued
whole_got k sent got queued m w =
    ap (λ l. l ++ of_stream k queued) (of_stream-append k got (m ∷ [])) ∙ append_assoc (of_stream k got) (of_stream k (m ∷ [])) (of_stream k queued)
    ∙ ap (λ l. of_stream k got ++ l) (sym (of_stream-append k (m ∷ []) queued)) ∙ w
