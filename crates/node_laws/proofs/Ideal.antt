-- A node without a merge has one ideal run over the same contents.
use Rattle.std.proofs.Common.{◌≡◌, inl, inr, refl, subst, ℕ, List, [], length, Option, Some, None, sym, ap, ◌∙◌, arith}
use Rattle.std.specs.Prelude.{IfSome}
use Rattle.chunk_core.specs.Elements.{Element, rendering_of}
use Rattle.chunk_core.specs.declared.code.Code.{Code}
use Rattle.chunk_core.specs.Feed.{Given}
use Rattle.chunk_core.specs.Outcomes.{End, Done, Fault, Cut, Outcomes}
use Rattle.pull_nodes.specs.Pairs.{pairs_of}
use Rattle.device_port.specs.Device.{DeviceTold}
use Rattle.pull_nodes.specs.Pipes.{part_of, all_of}
use Rattle.pull_nodes.specs.Runs.{IsIdealRun, IsIdle, IsUnwritten, ReadsContent, ReadsWhole, ReadsWholeBy, Follows, Taken, GivesAtEnd, GivesBy, Piped, Zipped, WrittenWhole}
use Rattle.node_laws.specs.Laws.{TellSame, TellSameOf, WroteSameOf}
use Rattle.pull_nodes.proofs.Folds.{each_of_two}
use Rattle.pull_nodes.specs.Shape.{HasNoMerge, written_place}
use Rattle.chunk_core.specs.Tables.{Values}
use Rattle.pull_nodes.specs.declared.node.Node.{Node}
use Rattle.pull_nodes.specs.declared.node.Node.TheVariants.{Nil, Emit, Raise, Read, Weak', Scope', Append', OnFault', Through', Take', Zip', Merge', Into'}

-- what the two give is one run, and P holds of any two
abbrev OneRun : Type 0 → Outcomes → Outcomes → Type 0
OneRun P A B = (xs ys : List Element) (e g : End) → A xs e → B ys g → (xs ≡ ys) × (e ≡ g) × P

one_content : (c : List ℕ) → OneRun (Unit {0}) (ReadsContent c) (ReadsContent c)
one_content c xs ys e g r s = let h : (xs ≡ ys) × (e ≡ g) = grind arith in (h.0, h.1, tt)

one_read : (d f : DeviceTold) → TellSame d f → OneRun (Unit {0}) (ReadsWhole d) (ReadsWhole f)
one_read d f same xs ys e g r s = one_content same.0 xs ys e g (subst (λ o. ReadsWholeBy o d xs e) same.1 r) (subst (λ o. ReadsWholeBy o f ys g) same.2 s)

one_follows : (Begins : End → Type 0) (A B C D : Outcomes) (P Q R S : Type 0) → (P → Q → S) → OneRun R A C → OneRun S B D → OneRun (R × S) (Follows Begins A B P) (Follows Begins C D Q)
one_follows Begins A B C D P Q R S i f k xs ys e g (inl r) (inl s) = let h = f xs ys e g r.0 s.0 in (h.0, h.1, (h.2, i r.2 s.2))
one_follows Begins A B C D P Q R S i f k xs ys e g (inl r) (inr s) = let h = f xs s.0 e s.2 r.0 s.3 in absurd (r.1 (subst Begins (sym h.1) s.4))
one_follows Begins A B C D P Q R S i f k xs ys e g (inr r) (inl s) = let h = f r.0 ys r.2 g r.3 s.0 in absurd (s.1 (subst Begins h.1 r.4))
one_follows Begins A B C D P Q R S i f k xs ys e g (inr r) (inr s) =
    let h = f r.0 s.0 r.2 s.2 r.3 s.3 in let j = k r.1 s.1 e g r.5 s.5 in (cc, j.1, (h.2, j.2))

one_taken : (n : ℕ) (A B : Outcomes) (P : Type 0) → OneRun P A B → OneRun P (Taken n A) (Taken n B)
one_taken n A B P f xs ys e g r s =
    let h = f r.0 s.0 r.1 s.1 r.2 s.2 in let k = ap length h.0 in let a = r.3 in let b = s.3 in
    let i : (xs ≡ ys) × (e ≡ g) = grind arith in (i.0, i.1, h.2)

one_at_end : (part all : List Element → Given) (zs : List Element) (k : End) → OneRun (Unit {0}) (GivesAtEnd part all zs k) (GivesAtEnd part all zs k)
one_at_end part all zs Done xs ys e g r s = (cc, cc, tt)
one_at_end part all zs (Fault c) xs ys e g r s = (cc, cc, tt)
one_at_end part all zs Cut xs ys e g r s = (cc, cc, tt)

one_by : (part all : List Element → Given) (c : Option Code) (zs : List Element) (k : End) → OneRun (Unit {0}) (GivesBy c part all zs k) (GivesBy c part all zs k)
one_by part all None zs k xs ys e g r s = one_at_end part all zs k xs ys e g r s
one_by part all (Some c) zs k xs ys e g r s = (cc, cc, tt)

one_piped : (part all : List Element → Given) (A B : Outcomes) (P : Type 0) → OneRun P A B → OneRun P (Piped part all A) (Piped part all B)
one_piped part all A B P f xs ys e g r s =
    let h = f r.0 s.0 r.1 s.1 r.2 s.2 in
    let i = one_by part all (part r.0).fault r.0 r.1 xs ys e g r.3 (subst (λ k. GivesBy (part r.0).fault part all r.0 k ys g) (sym h.1) (subst (λ zs. GivesBy (part zs).fault part all zs s.1 ys g) (sym h.0) s.3)) in
    (i.0, i.1, h.2)

one_zipped : (A B C D : Outcomes) (P Q : Type 0) → OneRun P A C → OneRun Q B D → OneRun (P × Q) (Zipped A B) (Zipped C D)
one_zipped A B C D P Q f k xs ys e g r s =
    let h = f r.0 s.0 r.2 s.2 r.4 s.4 in
    let j = k r.1 s.1 r.3 s.3 r.5 s.5 in
    let m = ap length h.0 in
    let n = ap length j.0 in
    let a = r.7 in
    let b = s.7 in
    let i : e ≡ g = grind arith in
    (r.6 ∙ (ap (λ l. pairs_of l r.1) h.0 ∙ (ap (λ l. pairs_of s.0 l) j.0 ∙ sym s.6)), i, (h.2, j.2))

abbrev IsSameText : Option (List ℕ) → Option (List ℕ) → Type 0
IsSameText a b = IfSome a (λ l. IfSome b (λ m. l ≡ m))

-- what was written is told by one text, or isn't told
same_text : (a b : Option (List ℕ)) (xs ys : List ℕ) → xs ≡ ys → IfSome a (λ l. l ≡ xs) → IfSome b (λ l. l ≡ ys) → IsSameText a b
same_text None b xs ys h r s = tt
same_text (Some l) None xs ys h r s = tt
same_text (Some l) (Some m) xs ys h r s = r ∙ (h ∙ sym s)

one_written : (d f : DeviceTold) (A B : Outcomes) (P : Type 0) → OneRun P A B → OneRun (IsSameText d.written f.written × P) (WrittenWhole d A) (WrittenWhole f B)
one_written d f A B P k xs ys e g r s =
    let h = k r.0 s.0 e g r.1 s.1 in
    (r.2 ∙ sym s.2, h.1, (same_text d.written f.written (rendering_of r.0) (rendering_of s.0) (ap rendering_of h.0) r.3 s.3, h.2))

-- what never ran wrote the same: nothing
idle : (v w : ℕ → DeviceTold) (n : Node) → IsIdle v n → IsIdle w n → WroteSameOf v w n
idle v w n =
    each_of_two (λ p. IsUnwritten (v p)) (λ p. IsUnwritten (w p)) (λ p. IsSameText (v p).written (w p).written) (λ p x y. same_text (v p).written (w p).written [] [] refl x y) written_place n

module _ (t : Values) (v w : ℕ → DeviceTold) where
  pub one : (n : Node) → HasNoMerge n → TellSameOf v w n → OneRun (WroteSameOf v w n) (IsIdealRun t v n) (IsIdealRun t w n)
  one Nil m s = λ xs ys e g r q. (cc, cc, tt)
  one (Emit l) m s = λ xs ys e g r q. (cc, cc, tt)
  one (Raise c) m s = λ xs ys e g r q. (cc, cc, tt)
  one (Read p) m s = one_read (v p) (w p) s.0
  one (Weak' p _ a) m s = one a m s
  one (Scope' _ a) m s = one a m s
  one (Append' _ a _ b) m s = one_follows _ _ _ _ _ _ _ _ _ (idle v w b) (one a m.0 s.0) (one b m.1 s.1)
  one (OnFault' _ a _ b) m s = one_follows _ _ _ _ _ _ _ _ _ (idle v w b) (one a m.0 s.0) (one b m.1 s.1)
  one (Through' _ a q) m s = one_piped (part_of t q) (all_of t q) _ _ _ (one a m s)
  one (Take' n _ a) m s = one_taken n _ _ _ (one a m s)
  one (Zip' _ a _ b) m s = one_zipped _ _ _ _ _ _ (one a m.0 s.0) (one b m.1 s.1)
  one (Merge' _ a _ b) m s = absurd m
  one (Into' p _ a) m s = one_written (v p) (w p) _ _ _ (one a m s)
