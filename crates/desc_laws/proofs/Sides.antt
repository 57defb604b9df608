-- The values of a stream that may be missing, and its second side, which is whole or not there.
use Rattle.std.proofs.Common.{◌≡◌, ◌≢◌, ℕ, ◌<◌, Bool, true, false, not, List, [], ◌∷◌, length, codes, Option, Some, None, Ok, if◌then◌else◌, inl, inr, ⊎_elim, refl, ap, ◌∙◌, sym, subst, pos, negsuc, nat_lt, eqb, Decides}
use Rattle.std.specs.Str.{bytes_eq}
use Rattle.std.proofs.lemmas.Bool.{and_from, and_parts, eq-eqb, false≢true, lt-ltb, ltb-true, ne_eqb}
use Rattle.std.proofs.lemmas.Slice.Eq.{bytes_eq-Decides}
use Rattle.chunk_core.proofs.Members.{among_cons, among_nil}
use Rattle.chunk_core.specs.Lists.{IsAmong}
use Rattle.chunk_core.specs.Lists.IsAmong.{here, there}
use Rattle.toml.specs.Data.{Data, as_integer, as_str}
use Rattle.pipeline_desc.specs.Limits.{is_another_stream}
use Rattle.pipeline_desc.specs.Meant.{NamedTables}
use Rattle.pipeline_desc.specs.Reading.{◌>>=◌, present}
use Rattle.pipeline_desc.specs.Streams.{join_meant, join_named, second_meant, until_meant}
use Rattle.pipeline_desc.specs.Values.{text_that, where_given}
use Rattle.pipeline_desc.specs.declared.join.Join.{Join}
use Rattle.pipeline_desc.specs.declared.join.Join.TheVariants as join
use Rattle.pipeline_desc.specs.declared.refusal.RefusalKind.TheVariants as refused
use Rattle.pipeline_desc.specs.declared.step.Step.{Step}
use Rattle.pipeline_desc.specs.declared.stream.Second.{Second}
use Rattle.desc_laws.specs.Flaws.Flaw.{HalfJoined}
use Rattle.desc_laws.specs.Flaws.Key.{With, Join as JoinKey, After, Until}
use Rattle.desc_laws.specs.Flaws.Part.{Stream}
use Rattle.desc_laws.specs.Has.{HasFlaw, flaws_at}
use Rattle.desc_laws.specs.Places.{IsGiven, streams_in, text_in, value_at, words_at}
use Rattle.desc_laws.specs.Says.{SaysGiven, SaysSecond, SaysSteps, SaysText, join_text}
use Rattle.desc_laws.specs.Stages.{names_in}
use Rattle.desc_laws.specs.Values.{IsOtherStream, join_names}
use Rattle.desc_laws.proofs.Agree.{Agrees}
use Rattle.desc_laws.proofs.Keys.{Rates, given_agrees, view_agrees}
use Rattle.desc_laws.proofs.Positions.{at_stream}
use Rattle.desc_laws.proofs.Tables.{text_seen}
use Rattle.desc_laws.proofs.Takes.{IsSecond}
use Rattle.desc_laws.proofs.Texts.{bind_ok}
use Rattle.desc_laws.proofs.Top.{number_or_agrees}

-- a text that was read where it is given
pub says_given : (k : ℕ) (o : Option Data) (test : List ℕ → Bool) (x : Option (List ℕ)) → where_given (text_that test (at_stream k).0) o ≡ Ok x → SaysGiven o x
says_given k None test x e = let none : None ≡ x = cc in sym none
says_given k (Some d) test x e =
    let (y, is, last) = bind_ok (text_that test (at_stream k).0 d) (λ z. Ok (Some z)) x e in
    let some : Some y ≡ x = cc in (y, text_seen (as_str d) test (at_stream k).0 y is, sym some)

-- the join that a text names
pub join_is : (name : List ℕ) (j : Join) → join_named name ≡ Some j → name ≡ join_text j
join_is name j e = go (bytes_eq name (codes "append")) (bytes_eq name (codes "zip")) (bytes_eq name (codes "merge")) refl refl refl e
  where
    go : (a b c : Bool) → bytes_eq name (codes "append") ≡ a → bytes_eq name (codes "zip") ≡ b → bytes_eq name (codes "merge") ≡ c
        → (if a then Some join.Append else if b then Some join.Zip else if c then Some join.Merge else None) ≡ Some j → name ≡ join_text j
    go true b c p q r e = let same : join.Append ≡ j = cc in (bytes_eq-Decides name (codes "append")).0 p ∙ ap join_text same
    go false true c p q r e = let same : join.Zip ≡ j = cc in (bytes_eq-Decides name (codes "zip")).0 q ∙ ap join_text same
    go false false true p q r e = let same : join.Merge ≡ j = cc in (bytes_eq-Decides name (codes "merge")).0 r ∙ ap join_text same
    go false false false p q r e = (cc)

join_among : (j : Join) → IsAmong (join_text j) join_names
join_among join.Append = here (codes "zip" ∷ codes "merge" ∷ [])
join_among join.Zip = there (codes "append") (here (codes "merge" ∷ []))
join_among join.Merge = there (codes "append") (there (codes "zip") (here []))

join_there : (name : List ℕ) → IsAmong name join_names → (j : Join) × (join_named name ≡ Some j)
join_there name i =
    ⊎_elim (λ e. (join.Append, ap join_named e))
    (λ more. ⊎_elim (λ e. (join.Zip, ap join_named e)) (λ rest. ⊎_elim (λ e. (join.Merge, ap join_named e)) (λ none. absurd (among_nil none)) (among_cons rest)) (among_cons more))
    (among_cons i)

-- the value at `join`
pub join_agrees : (bytes : List ℕ) (k : ℕ) → Agrees (HasFlaw bytes) (flaws_at (Stream k) JoinKey) (where_given (join_meant (at_stream k).0) (value_at bytes (Stream k) JoinKey))
join_agrees bytes k =
    given_agrees bytes (Stream k) JoinKey (join_meant (at_stream k).0) refl (λ d e. view_agrees bytes (Stream k) JoinKey d e (at_stream k).0 refl as_str (λ name. present (join_named name) refused.OutOfRange (at_stream k).0)
    (λ name is. (name, is)) (λ t. t) (λ name is. rates d e name is (join_named name) refl))
  where
    rates : (d : Data) (e : value_at bytes (Stream k) JoinKey ≡ Some d) (name : List ℕ) → as_str d ≡ Some name → (o : Option Join) → join_named name ≡ o → Rates bytes (Stream k) JoinKey d e (present o refused.OutOfRange (at_stream k).0)
    rates d e name is (Some j) named = (name, is, subst (λ n. IsAmong n join_names) (sym (join_is name j named)) (join_among j))
    rates d e name is None named = (
      (λ w. let (other, that, among) = w in
          let both : Some name ≡ Some other = sym is ∙ that in let same : other ≡ name = cc in
          let (j, found) = join_there name (subst (λ n. IsAmong n join_names) same among) in let no : None ≡ Some j = sym named ∙ found in cc),
      refl,
    )

-- a join that was read
abbrev pub IsJoinGiven : Option Data → Option Join → Type 0
IsJoinGiven None x = x ≡ None
IsJoinGiven (Some d) x = (name : List ℕ) × (j : Join) × (as_str d ≡ Some name) × (join_named name ≡ Some j) × (x ≡ Some j)

pub join_given : (k : ℕ) (o : Option Data) (x : Option Join) → where_given (join_meant (at_stream k).0) o ≡ Ok x → IsJoinGiven o x
join_given k None x e = let none : None ≡ x = cc in sym none
join_given k (Some d) x e =
    let (j, is, last) = bind_ok (join_meant (at_stream k).0 d) (λ z. Ok (Some z)) x e in
    let some : Some j ≡ x = cc in
    let (name, seen, named) = joined (as_str d) j is in (name, j, seen, named, sym some)
  where
    found : (o : Option Join) (j : Join) → present o refused.OutOfRange (at_stream k).0 ≡ Ok j → o ≡ Some j
    found None j e = (cc)
    found (Some i) j e = (cc)

    joined : (o : Option (List ℕ)) (j : Join) → (present o refused.WrongType (at_stream k).0 >>= (λ name. present (join_named name) refused.OutOfRange (at_stream k).0)) ≡ Ok j → (name : List ℕ) × (o ≡ Some name) × (join_named name ≡ Some j)
    joined None j e = (cc)
    joined (Some name) j e = (name, refl, found (join_named name) j e)

-- the value at `until`
pub until_agrees : (bytes : List ℕ) (k : ℕ) → Agrees (HasFlaw bytes) (flaws_at (Stream k) Until) (where_given (until_meant (length (streams_in bytes)) k) (value_at bytes (Stream k) Until))
until_agrees bytes k = number_or_agrees bytes (Stream k) Until refused.BadUntil (is_another_stream (length (streams_in bytes)) k) (at_stream k).0 refl refl refl (λ d. refl) decides negative
  where
    count : ℕ
    count = length (streams_in bytes)

    other : (n : ℕ) → not (eqb n k) ≡ true → n ≢ k
    other n t e = false≢true (sym (ap not (eq-eqb n k e)) ∙ t)

    decides : (d : Data) (n : ℕ) → as_integer d ≡ Some (pos n) → Decides (is_another_stream (length (streams_in bytes)) k n) (IsOtherStream bytes k d)
    decides d n is = (
      (λ t. let parts = and_parts (nat_lt n (length (streams_in bytes))) (not (eqb n k)) t in (n, is, ltb-true n (length (streams_in bytes)) parts.0, other n parts.1)),
      (λ w. let (m, that, below, another) = w in
          let both : Some (pos n) ≡ Some (pos m) = sym is ∙ that in let same : m ≡ n = cc in
          and_from (nat_lt n (length (streams_in bytes))) (not (eqb n k)) (lt-ltb n (length (streams_in bytes)) (subst (λ i. i < length (streams_in bytes)) same below)) (ap not (ne_eqb n k (subst (λ i. i ≢ k) same another)))),
    )

    negative : (d : Data) (n : ℕ) → as_integer d ≡ Some (negsuc n) → IsOtherStream bytes k d → ⊥
    negative d n is w = let (m, that, below, another) = w in let no : Some (negsuc n) ≡ Some (pos m) = sym is ∙ that in cc

-- what was read of several keys
pub record AreRead (bytes : List ℕ) (k : ℕ) (side : Option (List ℕ)) (joined : Option Join) (after : List Step) : Type 0 where
  pub side_is : SaysGiven (value_at bytes (Stream k) With) side
  pub join_is : IsJoinGiven (value_at bytes (Stream k) JoinKey) joined
  pub after_is : SaysSteps (names_in bytes k) (words_at bytes k After) after

given_none : (o : Option Data) (x : Option (List ℕ)) → SaysGiven o x → x ≡ None → o ≡ None
given_none None x h e = refl
given_none (Some d) x h e = let (text, is, some) = h in let no : None ≡ Some text = sym e ∙ some in absurd (nothing text no)
  where
    nothing : (text : List ℕ) → None ≡ Some text → ⊥
    nothing text n = cc

given_some : (o : Option Data) (path : List ℕ) → SaysGiven o (Some path) → SaysText o path
given_some None path h = let no : Some path ≡ None = h in cc
given_some (Some d) path h = let (text, is, some) = h in let same : text ≡ path = cc in is ∙ ap (λ (t : List ℕ). Some t) same

join_none : (o : Option Data) → IsJoinGiven o None → o ≡ None
join_none None h = refl
join_none (Some d) h = let (name, j, is, named, some) = h in let no : None ≡ Some j = some in absurd (nothing j no)
  where
    nothing : (j : Join) → None ≡ Some j → ⊥
    nothing j n = cc

join_some : (o : Option Data) (j : Join) → IsJoinGiven o (Some j) → (name : List ℕ) × (text_in o ≡ Some name) × (join_named name ≡ Some j)
join_some None j h = let no : Some j ≡ None = h in absurd (nothing no)
  where
    nothing : Some j ≡ None → ⊥
    nothing n = cc
join_some (Some d) j h = let (name, i, is, named, some) = h in let same : i ≡ j = cc in (name, is, named ∙ ap (λ (x : Join). Some x) same)

there_text : (o : Option Data) (text : List ℕ) → text_in o ≡ Some text → SaysText o text
there_text None text e = let no : None ≡ Some text = e in cc
there_text (Some d) text e = e

said_nothing : (tables : NamedTables) (words : List (List ℕ)) → SaysSteps tables words [] → words ≡ []
said_nothing tables [] h = refl
said_nothing tables (word ∷ words) h = absurd h

there_data : (o : Option Data) (text : List ℕ) → SaysText o text → (d : Data) × (o ≡ Some d)
there_data None text h = absurd h
there_data (Some d) text h = (d, refl)

not_given : (bytes : List ℕ) (k : ℕ) (key : _) → value_at bytes (Stream k) key ≡ None → IsGiven bytes (Stream k) key → ⊥
not_given bytes k key e h = let (d, some) = h in let no : None ≡ Some d = sym e ∙ some in cc

-- a second side is whole or not there
pub second_agrees : (bytes : List ℕ) (k : ℕ) (side : Option (List ℕ)) (joined : Option Join) (after : List Step) → AreRead bytes k side joined after
    → Agrees (HasFlaw bytes) (HalfJoined k ∷ []) (second_meant (at_stream k).0 side joined after)
second_agrees bytes k None None [] are = (
  (λ h. ⊎_elim (λ a. no_side a.0) (λ b. ⊎_elim (λ c. not_given bytes k JoinKey (join_none (value_at bytes (Stream k) JoinKey) are.join_is) c.0) (λ d. d.0 (said_nothing (names_in bytes k) (words_at bytes k After) are.after_is)) b) h),
  tt,
)
  where
    no_side : IsGiven bytes (Stream k) With → ⊥
    no_side = not_given bytes k With (given_none (value_at bytes (Stream k) With) None are.side_is refl)
second_agrees bytes k None None (s ∷ steps) are = inl (inr (inr (some (words_at bytes k After) are.after_is, not_given bytes k With (given_none (value_at bytes (Stream k) With) None are.side_is refl))), refl)
  where
    some : (words : List (List ℕ)) → SaysSteps (names_in bytes k) words (s ∷ steps) → words ≢ []
    some [] h e = h
    some (word ∷ words) h e = let no : word ∷ words ≡ [] = e in cc
second_agrees bytes k None (Some j) after are =
    let (name, text, named) = join_some (value_at bytes (Stream k) JoinKey) j are.join_is in
    inl (inr (inl (there_data (value_at bytes (Stream k) JoinKey) name (there_text (value_at bytes (Stream k) JoinKey) name text), not_given bytes k With (given_none (value_at bytes (Stream k) With) None are.side_is refl))), refl)
second_agrees bytes k (Some path) None after are =
    inl (inl (there_data (value_at bytes (Stream k) With) path (given_some (value_at bytes (Stream k) With) path are.side_is), not_given bytes k JoinKey (join_none (value_at bytes (Stream k) JoinKey) are.join_is)), refl)
second_agrees bytes k (Some path) (Some j) after are = (
  (λ h.
      let (name, text, named) = join_some (value_at bytes (Stream k) JoinKey) j are.join_is in
      let side = there_data (value_at bytes (Stream k) With) path (given_some (value_at bytes (Stream k) With) path are.side_is) in
      ⊎_elim (λ a. a.1 (there_data (value_at bytes (Stream k) JoinKey) name (there_text (value_at bytes (Stream k) JoinKey) name text))) (λ b. ⊎_elim (λ c. c.1 side) (λ d. d.1 side) b) h),
  tt,
)

-- what a second side was read from
abbrev pub SecondIs : Option (List ℕ) → Option Join → List Step → Option Second → Type 0
SecondIs side joined after None = (side ≡ None) × (joined ≡ None) × (after ≡ [])
SecondIs side joined after (Some x) = (side ≡ Some x.path) × (joined ≡ Some x.join) × (x.after ≡ after)

pub second_is : (k : ℕ) (side : Option (List ℕ)) (joined : Option Join) (after : List Step) (second : Option Second) → second_meant (at_stream k).0 side joined after ≡ Ok second → SecondIs side joined after second
second_is k None None [] second e = let same : None ≡ second = cc in subst (SecondIs None None []) same (refl, refl, refl)
second_is k None None (s ∷ steps) second e = (cc)
second_is k None (Some j) after second e = (cc)
second_is k (Some path) None after second e = (cc)
second_is k (Some path) (Some j) after second e = let same : Some (record { join = j; path = path; after = after }) ≡ second = cc in subst (SecondIs (Some path) (Some j) after) same (refl, refl, refl)

module _ (bytes : List ℕ) (k : ℕ) (side : Option (List ℕ)) (joined : Option Join) (after : List Step) (are : AreRead bytes k side joined after) where
  pub second_stands : (second : Option Second) → SecondIs side joined after second → IsSecond (names_in bytes k) k (text_in (value_at bytes (Stream k) JoinKey)) (words_at bytes k After) second
  second_stands None h =
      let (s, j, a) = h in (
        ap text_in (join_none (value_at bytes (Stream k) JoinKey) (subst (IsJoinGiven (value_at bytes (Stream k) JoinKey)) j are.join_is)),
        said_nothing (names_in bytes k) (words_at bytes k After) (subst (SaysSteps (names_in bytes k) (words_at bytes k After)) a are.after_is),
      )
  second_stands (Some x) h =
      let (s, j, a) = h in
      let (name, text, named) = join_some (value_at bytes (Stream k) JoinKey) x.join (subst (IsJoinGiven (value_at bytes (Stream k) JoinKey)) j are.join_is) in
      (name, text, named, subst (SaysSteps (names_in bytes k) (words_at bytes k After)) (sym a) are.after_is)

  pub second_said : (second : Option Second) → SecondIs side joined after second → SaysSecond bytes k second
  second_said None h =
      let (s, j, a) = h in (
        given_none (value_at bytes (Stream k) With) side are.side_is s,
        join_none (value_at bytes (Stream k) JoinKey) (subst (IsJoinGiven (value_at bytes (Stream k) JoinKey)) j are.join_is),
        said_nothing (names_in bytes k) (words_at bytes k After) (subst (SaysSteps (names_in bytes k) (words_at bytes k After)) a are.after_is),
      )
  second_said (Some x) h =
      let (s, j, a) = h in
      let (name, text, named) = join_some (value_at bytes (Stream k) JoinKey) x.join (subst (IsJoinGiven (value_at bytes (Stream k) JoinKey)) j are.join_is) in
      record {
        path = given_some (value_at bytes (Stream k) With) x.path (subst (SaysGiven (value_at bytes (Stream k) With)) s are.side_is);
        join = subst (SaysText (value_at bytes (Stream k) JoinKey)) (join_is name x.join named) (there_text (value_at bytes (Stream k) JoinKey) name text);
        after = subst (SaysSteps (names_in bytes k) (words_at bytes k After)) (sym a) are.after_is;
      }
