-- A reader's groups, as lines come, are taken, and no longer come.
use Rattle.std.proofs.Common.{◌≡◌, ℕ, zero, suc, ◌+◌, ◌<◌, ◌≤◌, Bool, true, false, List, [], ◌∷◌, ◌++◌, map, length, take, drop, Option, Some, None, IfSome, refl, sym, ap, ◌∙◌, subst, ⊎_elim, arith, append-nil, append_assoc, length-append}
use Rattle.std.proofs.lemmas.Bool.{cases_lt, false≢true}
use Rattle.std.proofs.Math.Seq.{drop-append_seam, take-append_seam}
use Rattle.std.proofs.lemmas.Grind.{flat_map-append}
use Rattle.std.proofs.lemmas.List.{drop_all, map-append, take-append-drop, take_all}
use Rattle.chunk_core.specs.Elements.{Element, element_text, rendering_of}
use Rattle.chunk_core.specs.Elements.Element.{Line}
use Rattle.chunk_core.specs.Elements.LoadKind.{Lines}
use Rattle.chunk_core.specs.Tables.{Values}
use Rattle.chunk_core.specs.declared.code.How.{How}
use Rattle.device_port.specs.Device.{DeviceTold}
use Rattle.pull_stepper.specs.Held.{FinishesDevice}
use Rattle.pull_stepper.specs.Laws.{since_same}
use Rattle.pull_stepper.specs.Sites.{around, told_at}
use Rattle.pull_stepper.specs.Stepping.{CanGo, Stepping}
use Rattle.pull_turns.specs.Piping.{HasKind, StateMeaning}
use Rattle.pull_turns.proofs.Led.{led_start, spends_none}
use Rattle.run_rules.specs.Facts.{is_over}
use Rattle.eval_rules.specs.Answers.{groups_of}
use Rattle.eval_reader.specs.Reading.{HasStopped, IsGrouping, IsReading, IsWhole, ReadsTo, SeenReader, ends_itself, lines_by, stopped_from}
use Rattle.eval_reader.proofs.Taking.{took}

none_of : (ws : List (List ℕ)) → length ws ≡ 0 → ws ≡ []
none_of [] e = refl
none_of (w ∷ ws) e = absurd (omega (arith, e))

-- what has ended by itself isn't stopped by a halt
pub itself_still : (o : Option How) → ends_itself o ≡ true → is_over (stopped_from o) ≡ true
itself_still None e = absurd (false≢true e)
itself_still (Some h) e = e

-- what runs hasn't ended
pub running : (o : Option How) (b : Bool) → o ≡ None → ends_itself o ≡ true → b ≡ true
running o b runs e = absurd (false≢true (sym (ap ends_itself runs) ∙ e))

full_by : (o : Option How) (n k : ℕ) → IfSome o (λ h. is_over h ≡ true) → ¬ ((k < n) × (o ≡ None)) → ends_itself o ≡ false → n ≤ k
full_by None n k u more e = ⊎_elim (λ l. absurd (more (l, refl))) (λ l. l) (cases_lt k n)
full_by (Some h) n k u more e = absurd (false≢true (sym e ∙ u))

ended_by : (o : Option How) (n k : ℕ) → IfSome o (λ h. is_over h ≡ true) → 0 < n → k ≡ 0 → (ends_itself o ≡ false → n ≤ k) → (h : How) × (o ≡ Some h) × (is_over h ≡ true)
ended_by None n k u some none whole = absurd (let w = whole refl in omega (arith, w, some, none))
ended_by (Some h) n k u some none whole = (h, refl, u)

pub over_moved : {V F : Type 0} (b c : Stepping V F) → c ≡ b → IfSome b.how (λ h. is_over h ≡ true) → IfSome c.how (λ h. is_over h ≡ true)
over_moved {V} {F} b c same u = subst (λ (s : Stepping V F). IfSome s.how (λ h. is_over h ≡ true)) (sym same) u

-- as many are taken as that, or fewer
taken_most : {A : Type 0} (m : ℕ) (xs : List A) → length (take m xs) ≤ m
taken_most zero xs = omega arith
taken_most (suc m) [] = omega arith
taken_most (suc m) (x ∷ xs) = let t = taken_most m xs in omega (arith, t)

-- where fewer are taken than that, there are no more
few_left : {A : Type 0} (m : ℕ) (xs : List A) → length (take m xs) < m → length xs ≤ m
few_left zero xs l = absurd (omega (arith, l))
few_left (suc m) [] l = omega arith
few_left (suc m) (x ∷ xs) l = let t = few_left m xs (omega (arith, l)) in omega (arith, t)

-- the first n of lines that are gathered, n at most, and of those that wait, none where fewer are gathered
cut_at : (n : ℕ) (gathered waiting : List (List ℕ)) → length gathered ≤ n → (length gathered < n → waiting ≡ []) → (take n (gathered ++ waiting) ≡ gathered) × (drop n (gathered ++ waiting) ≡ waiting)
cut_at n gathered waiting small none = ⊎_elim few whole (cases_lt (length gathered) n)
  where
    few : length gathered < n → (take n (gathered ++ waiting) ≡ gathered) × (drop n (gathered ++ waiting) ≡ waiting)
    few l =
        let all : gathered ++ waiting ≡ gathered = ap (λ ws. gathered ++ ws) (none l) ∙ append-nil gathered in
        (ap (take n) all ∙ take_all n gathered small, ap (drop n) all ∙ (drop_all n gathered small ∙ sym (none l)))

    whole : n ≤ length gathered → (take n (gathered ++ waiting) ≡ gathered) × (drop n (gathered ++ waiting) ≡ waiting)
    whole l =
        let count : length gathered ≡ n = omega (arith, small, l) in
        (subst (λ k. take k (gathered ++ waiting) ≡ gathered) count (take-append_seam gathered waiting), subst (λ k. drop k (gathered ++ waiting) ≡ waiting) count (drop-append_seam gathered waiting))

module _ {V F : Type 0} (P : Values → StateMeaning F) (told : V → DeviceTold) where
  -- the same stepper, and the lines that came
  pub moved : (a b c : Stepping V F) (o : Option (List (List ℕ))) (lines : List (List ℕ)) (xs : List Element) → IsReading P told a b (xs ++ lines_by o) → o ≡ Some lines → c ≡ b → IsReading P told a c (xs ++ map Line lines)
  moved a b c o lines xs r e same = subst (λ s. IsReading P told a s (xs ++ map Line lines)) (sym same) (subst (λ p. IsReading P told a b (xs ++ lines_by p)) e r)

  pub moved_none : (a b : Stepping V F) (o : Option (List (List ℕ))) (xs : List Element) → IsReading P told a b (xs ++ lines_by o) → o ≡ None → IsReading P told a b (xs ++ [])
  moved_none a b o xs r e = subst (λ p. IsReading P told a b (xs ++ lines_by p)) e r

  -- nothing was read
  pub begins : (r : SeenReader V F) → r.waiting ≡ [] → r.count ≡ 0 → r.text ≡ [] → CanGo P told r.stepper → HasKind (P r.stepper.tables) Lines r.stepper.rest → (n : ℕ) → IsGrouping P told n r.stepper r []
  begins r none uncounted blank can kind n =
      let a : Stepping V F = r.stepper in
      record {
        given = [];
        gathered = [];
        reading = record {
          since = since_same told (FinishesDevice told) a.site;
          at = subst (λ h. ReadsTo P told a a [] h) (sym can.how) (record {
            can = can;
            tables = refl;
            chunk = refl;
            spends = spends_none (around told a.site) a.rest;
            led = led_start (P a.tables) (told_at told a.site) a.rest;
            lines = kind;
          });
        };
        unstopped = subst (λ o. IfSome o (λ h. is_over h ≡ true)) (sym can.how) tt;
        counted = uncounted;
        small = omega arith;
        written = blank;
        grouped = λ more e. subst (λ (ws : List (List ℕ)). groups_of n more ≡ groups_of n (map Line ws ++ more)) (sym none) refl;
      }

  module _ (n : ℕ) (a : Stepping V F) (old : SeenReader V F) (groups : List (List Element)) (k : IsGrouping P told n a old groups) where
    -- the lines that are in no group yet
    abbrev left : List (List ℕ)
    left = k.gathered ++ old.waiting

    behind : (lines : List (List ℕ)) (more : List Element) → old.stepper.how ≡ None → groups_of n ((k.given ++ map Line lines) ++ more) ≡ groups ++ groups_of n (map Line (left ++ lines) ++ more)
    behind lines more runs =
        ap (λ xs. groups_of n xs) (append_assoc k.given (map Line lines) more)
        ∙ (k.grouped (map Line lines ++ more) (λ e. absurd (false≢true (running old.stepper.how false runs e)))
        ∙ ap (λ xs. groups ++ groups_of n xs) (sym (append_assoc (map Line left) (map Line lines) more) ∙ ap (λ ys. ys ++ more) (sym (map-append Line left lines))))

    -- no more lines are gathered than a group has
    pub small_enough : old.count ≤ n
    small_enough = subst (λ c. c ≤ n) (sym k.counted) k.small

    -- lines came, which wait
    pub came : (new : SeenReader V F) (lines : List (List ℕ)) → old.stepper.how ≡ None → IsReading P told a new.stepper (k.given ++ map Line lines) → IfSome new.stepper.how (λ h. is_over h ≡ true) → new.waiting ≡ old.waiting ++ lines
        → new.count ≡ old.count → new.text ≡ old.text → IsGrouping P told n a new groups
    came new lines runs r u waits counts texts = record {
      given = k.given ++ map Line lines;
      gathered = k.gathered;
      reading = r;
      unstopped = u;
      counted = counts ∙ k.counted;
      small = k.small;
      written = texts ∙ k.written;
      grouped = λ more e.
          behind lines more runs
          ∙ ap (λ ws. groups ++ groups_of n (map Line ws ++ more)) (append_assoc k.gathered old.waiting lines ∙ ap (λ ws. k.gathered ++ ws) (sym waits));
    }

    -- a turn gave nothing
    pub came_none : (new : SeenReader V F) → old.stepper.how ≡ None → IsReading P told a new.stepper (k.given ++ []) → IfSome new.stepper.how (λ h. is_over h ≡ true) → new.waiting ≡ old.waiting → new.count ≡ old.count → new.text ≡ old.text → IsGrouping P told n a new groups
    came_none new runs r u waits counts texts = came new [] runs r u (waits ∙ sym (append-nil old.waiting)) counts texts

    -- it has ended, by itself or not, and nothing more is read
    pub stopped : (new : SeenReader V F) (h : How) → IsReading P told a new.stepper k.given → new.stepper.how ≡ Some h → (ends_itself old.stepper.how ≡ true → is_over h ≡ true) → HasStopped P told n a new groups
    stopped new h r ended itself = record {
      given = k.given;
      how = h;
      ended = ended;
      reading = r;
      fronts = λ more e. (groups_of n (map Line left ++ more), k.grouped more (λ t. e (itself t)));
    }

    -- so many lines were gathered as a group has, or no more come
    pub full : ¬ ((old.count < n) × (old.stepper.how ≡ None)) → ends_itself old.stepper.how ≡ false → n ≤ old.count
    full more e = full_by old.stepper.how n old.count k.unstopped more e

    -- some of the lines that wait were gathered
    pub gathers : (new : SeenReader V F) (m : ℕ) → old.count + m ≤ n → new.stepper ≡ old.stepper → new.text ≡ old.text ++ rendering_of (map Line (take m old.waiting)) → new.count ≡ old.count + length (take m old.waiting) → new.waiting ≡ drop m old.waiting
        → IsGrouping P told n a new groups
    gathers new m fits same texts counts waits = record {
      given = k.given;
      gathered = k.gathered ++ front;
      reading = subst (λ s. IsReading P told a s k.given) (sym same) k.reading;
      unstopped = over_moved old.stepper new.stepper same k.unstopped;
      counted = let c = k.counted in let l = length-append k.gathered front in omega (arith, c, l, counts);
      small = let c = k.counted in let l = length-append k.gathered front in let b = taken_most m old.waiting in omega (arith, c, l, b, fits);
      written = texts ∙ (ap (λ t. t ++ rendering_of (map Line front)) k.written ∙ sym both);
      grouped = λ more e. k.grouped more (λ t. e (ap (λ (s : Stepping V F). ends_itself s.how) same ∙ t)) ∙ ap (λ ws. groups ++ groups_of n (map Line ws ++ more)) parts;
    }
      where
        front : List (List ℕ)
        front = take m old.waiting

        both : rendering_of (map Line (k.gathered ++ front)) ≡ rendering_of (map Line k.gathered) ++ rendering_of (map Line front)
        both = ap rendering_of (map-append Line k.gathered front) ∙ flat_map-append element_text (map Line k.gathered) (map Line front)

        parts : left ≡ (k.gathered ++ front) ++ new.waiting
        parts = ap (λ ws. k.gathered ++ ws) (sym (take-append-drop m old.waiting) ∙ ap (λ ws. front ++ ws) (sym waits)) ∙ sym (append_assoc k.gathered front new.waiting)

    -- fewer lines wait than may be gathered, and all of them were
    pub none_waits : (m c : ℕ) → old.count + m ≡ n → c ≡ old.count + length (take m old.waiting) → c < n → drop m old.waiting ≡ []
    none_waits m c whole counts less = drop_all m old.waiting (few_left m old.waiting (omega (arith, whole, counts, less)))

    -- no line was gathered, and no more come
    pub ended : 0 < n → old.count ≡ 0 → (ends_itself old.stepper.how ≡ false → n ≤ old.count) → (old.count < n → old.waiting ≡ []) → IsWhole P told n a old groups
    ended some none whole rest =
        let e = ended_by old.stepper.how n old.count k.unstopped some none whole in
        let w : left ≡ [] = ap (λ ws. ws ++ old.waiting) (none_of k.gathered (sym k.counted ∙ none)) ∙ rest (subst (λ c. c < n) (sym none) some) in
        record {
          given = k.given;
          how = e.0;
          ended = e.1;
          itself = e.2;
          reading = k.reading;
          whole = ap (λ xs. groups_of n xs) (sym (append-nil k.given)) ∙ (k.grouped [] (λ t. refl) ∙ (ap (λ (ws : List (List ℕ)). groups ++ groups_of n (map Line ws ++ [])) w ∙ append-nil groups));
        }

    -- the lines that were gathered were given as a group
    pub taken : (new : SeenReader V F) → new.stepper ≡ old.stepper → 0 < n → 0 < old.count → (ends_itself old.stepper.how ≡ false → n ≤ old.count) → (old.count < n → old.waiting ≡ []) → new.text ≡ [] → new.count ≡ 0 → new.waiting ≡ old.waiting
        → IsGrouping P told n a new (groups ++ map Line k.gathered ∷ [])
    taken new same some any whole none texts counts waits = record {
      given = k.given;
      gathered = [];
      reading = subst (λ s. IsReading P told a s k.given) (sym same) k.reading;
      unstopped = over_moved old.stepper new.stepper same k.unstopped;
      counted = counts;
      small = omega arith;
      written = texts;
      grouped = λ more e.
          took n left some (ends_itself old.stepper.how) k.given groups many many_left k.grouped more (λ t. e (ap (λ (s : Stepping V F). ends_itself s.how) same ∙ t))
          ∙ (ap (λ f. (groups ++ map Line f ∷ []) ++ groups_of n (map Line (drop n left) ++ more)) cut.0 ∙ ap (λ ws. (groups ++ map Line k.gathered ∷ []) ++ groups_of n (map Line ws ++ more)) (cut.1 ∙ sym waits));
    }
      where
        cut : (take n left ≡ k.gathered) × (drop n left ≡ old.waiting)
        cut = cut_at n k.gathered old.waiting k.small (λ l. none (subst (λ c. c < n) (sym k.counted) l))

        many : ends_itself old.stepper.how ≡ false → n ≤ length left
        many e = let w = whole e in let c = k.counted in let l = length-append k.gathered old.waiting in omega (arith, w, c, l)

        many_left : 0 < length left
        many_left = let c = k.counted in let l = length-append k.gathered old.waiting in omega (arith, any, c, l)
