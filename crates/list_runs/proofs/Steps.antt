-- What two steps give, one behind the other.
use Rattle.std.proofs.Common.{◌≡◌, List, [], ◌∷◌, Option, Some, None, refl, sym, ap, ◌∙◌}
use Rattle.std.specs.Str.{is_utf8, chars}
use Rattle.std.specs.Char.{encode_utf8}
use Rattle.std.specs.Str.Lossy.{utf8_valid_len, utf8_error_len}
use Rattle.chunk_core.specs.Elements.{Element}
use Rattle.chunk_core.specs.Feed.{Given}
use Rattle.chunk_core.specs.Outcomes.{Cut, Done, End, Fault}
use Rattle.chunk_core.specs.Tables.{no_values}
use Rattle.chunk_core.specs.declared.code.Code.{Code}
use Rattle.pull_nodes.specs.Lines.{without_pairs, ended_lines, open_line}
use Rattle.pull_nodes.specs.Pipes.{all_of, part_of}
use Rattle.pull_nodes.specs.Runs.{end_by_fault}
use Rattle.pull_nodes.specs.declared.pipe.Pipe.TheVariants as pipe
use Rattle.chain_pipes.specs.Over.{Came, came, chain_part, fault_of, given_of, over, through}
use Rattle.list_runs.specs.Meant.{list_steps}

-- an end by a fault
pub end_with : (e : End) (c : Code) → fault_of e ≡ Some c → e ≡ Fault c
end_with Done c h = let z : None ≡ Some c = h in cc
end_with (Fault d) c h = let z : Some d ≡ Some c = h in cc
end_with Cut c h = let z : None ≡ Some c = h in cc

-- the end is no cut
abbrev IsWhole : End → Type 0
IsWhole e = end_by_fault (fault_of e) Done ≡ e

by_fault_whole : (o : Option Code) → IsWhole (end_by_fault o Done)
by_fault_whole None = refl
by_fault_whole (Some c) = refl

through_whole : (f : Option Code) (part all : Given) (e : End) → IsWhole e → IsWhole (through f part all e).end
through_whole (Some c) part all e h = refl
through_whole None part all Done h = by_fault_whole all.fault
through_whole None part all (Fault c) h = refl
through_whole None part all Cut h = let z : Done ≡ Cut = h in cc

-- a fault that comes in goes out
fault_stays : (f : Option Code) (part all : Given) (c : Code) → fault_of (through f part all (Fault c)).end ≡ None → ⊥
fault_stays (Some d) part all c h = let z : Some d ≡ None = h in cc
fault_stays None part all c h = let z : Some c ≡ None = h in cc

-- of a cut that gave no fault: it stays a cut, and with a fault the same is given and then the fault
record IsCutShort (run : End → Came) : Type 0 where
  cut : (run Cut).end ≡ Cut
  failed : (c : Code) → run (Fault c) ≡ came (run Cut).list (Fault c)

one_short : (f : Option Code) (part all : Given) → fault_of (through f part all Cut).end ≡ None → IsCutShort (through f part all)
one_short (Some c) part all h = absurd (let z : Some c ≡ None = h in cc)
one_short None part all h = record { cut = refl; failed = λ c. refl }

two_short : (f : Option Code) (given whole : Given) (part all : List Element → Given)
    → fault_of (through (part (through f given whole Cut).list).fault (part (through f given whole Cut).list) (all (through f given whole Cut).list) (through f given whole Cut).end).end ≡ None
    → IsCutShort (λ e. through (part (through f given whole e).list).fault (part (through f given whole e).list) (all (through f given whole e).list) (through f given whole e).end)
two_short (Some c) given whole part all h = absurd (fault_stays (part given.list).fault (part given.list) (all given.list) c h)
two_short None given whole part all h =
    let s = one_short (part given.list).fault (part given.list) (all given.list) h in
    record { cut = s.cut; failed = s.failed }

-- nothing has come of nothing
nothing_yet : over list_steps [] Cut ≡ came [] Cut
unfolding without_pairs ended_lines open_line utf8_valid_len is_utf8 chars encode_utf8 utf8_error_len
nothing_yet = refl

-- what was given of an input that may go on is what is given of one that was cut
pub part_is : (xs : List Element) → chain_part list_steps xs ≡ given_of (over list_steps xs Cut)
part_is [] = sym (ap given_of nothing_yet)
part_is (x ∷ xs) = refl

-- of a whole input the end is no cut
pub all_end : (xs : List Element) → end_by_fault (fault_of (over list_steps xs Done).end) Done ≡ (over list_steps xs Done).end
all_end xs =
    let first = part_of no_values pipe.Utf8 xs in
    let whole = all_of no_values pipe.Utf8 xs in
    let mid = through first.fault first whole Done in
    through_whole (part_of no_values pipe.Lines mid.list).fault (part_of no_values pipe.Lines mid.list) (all_of no_values pipe.Lines mid.list) mid.end (through_whole first.fault first whole Done refl)

cut_short : (xs : List Element) → fault_of (over list_steps xs Cut).end ≡ None → IsCutShort (over list_steps xs)
cut_short xs h = two_short (part_of no_values pipe.Utf8 xs).fault (part_of no_values pipe.Utf8 xs) (all_of no_values pipe.Utf8 xs) (part_of no_values pipe.Lines) (all_of no_values pipe.Lines) h

pub cut_end : (xs : List Element) → fault_of (over list_steps xs Cut).end ≡ None → (over list_steps xs Cut).end ≡ Cut
cut_end xs h = (cut_short xs h).cut

pub failed_over : (xs : List Element) (c : Code) → fault_of (over list_steps xs Cut).end ≡ None → over list_steps xs (Fault c) ≡ came (over list_steps xs Cut).list (Fault c)
failed_over xs c h = (cut_short xs h).failed c

part_through : (f : Option Code) (part all : Given) → (through f part all Cut).list ≡ part.list
part_through (Some c) part all = refl
part_through None part all = refl

-- the same where a fault came in
faulty_list : (f : Option Code) (part all : Given) (c : Code) → (through f part all (Fault c)).list ≡ part.list
faulty_list (Some d) part all c = refl
faulty_list None part all c = refl

-- the lines that have come are those of the text that has come
pub part_lines : (xs : List Element) → (chain_part list_steps xs).list ≡ (part_of no_values pipe.Lines (part_of no_values pipe.Utf8 xs).list).list
part_lines xs = ap (λ (g : Given). g.list) (part_is xs) ∙ both (part_of no_values pipe.Utf8 xs).fault (part_of no_values pipe.Utf8 xs) (all_of no_values pipe.Utf8 xs)
  where
    lines : List Element → Given
    lines = part_of no_values pipe.Lines

    both : (f : Option Code) (part all : Given)
        → (through (lines (through f part all Cut).list).fault (lines (through f part all Cut).list) (all_of no_values pipe.Lines (through f part all Cut).list) (through f part all Cut).end).list ≡ (lines part.list).list
    both (Some c) part all = faulty_list (lines part.list).fault (lines part.list) (all_of no_values pipe.Lines part.list) c
    both None part all = part_through (lines part.list).fault (lines part.list) (all_of no_values pipe.Lines part.list)
