-- The summary of a case and its text.
use Rattle.std.specs.Prelude.{ℕ, List, ◌++◌, codes, decimal}
use Rattle.chunk_core.specs.Texts.{Frame}
use Rattle.res_ledger.specs.declared.event.Event.{Event}
use Rattle.gen_case.specs.Noted.{noted_in}
use Rattle.gen_case.specs.Tally.{tally_of}
use Rattle.gen_case.specs.declared.case.Case.{Case}
use Rattle.gen_case.specs.declared.noted.Noted.{Noted}
use Rattle.gen_case.specs.declared.tally.Tally.{Tally}
use Rattle.gen_case.specs.declared.summary.Summary.{Summary}

-- that of a case of which these frames were printed and these events noted
abbrev pub summary_of : Case → List Frame → List Event → Summary
summary_of c F L = record { case = c; printed = tally_of F; noted = noted_in L }

-- the three numbers of a case
abbrev pub case_text : Case → List ℕ
case_text c = codes "gen " ++ (decimal c.seed ++ (codes " " ++ (decimal c.streams ++ (codes " " ++ (decimal c.lines ++ codes "\n")))))

-- a line for each number of a tally, behind its name
abbrev pub tally_text : Tally → List ℕ
tally_text t = codes "frames " ++ (decimal t.frames ++ (codes "\nbytes " ++ (decimal t.bytes ++ (codes "\ndigits " ++ (decimal t.digits ++ codes "\n")))))

-- a line for each number of events, behind the name of their sort
abbrev pub noted_text : Noted → List ℕ
noted_text n =
    codes "acquire " ++ (decimal n.acquire ++ (codes "\nlease " ++ (decimal n.lease ++ (codes "\ncancel " ++ (decimal n.cancel
    ++ (codes "\nclose " ++ (decimal n.close ++ (codes "\nfinal " ++ (decimal n.finals ++ codes "\n")))))))))

-- the three, one behind the other
abbrev pub summary_text : Summary → List ℕ
summary_text s = case_text s.case ++ (tally_text s.printed ++ noted_text s.noted)
