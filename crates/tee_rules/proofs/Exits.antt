-- What the outer stream noted of exits tells of its end: beside the Close of its root there is none, and no Cancel.
use Rattle.std.proofs.Common.{◌≡◌, ℕ, zero, suc, List, [], ◌∷◌, ◌++◌, None, Some, refl, sym, ap, ◌∙◌, subst, ⊎_elim, arith}
use Rattle.std.specs.List.{AllByRecursion}
use Rattle.chunk_core.proofs.Cuts.{among_parts}
use Rattle.chunk_core.proofs.Each.{among_each, each_among}
use Rattle.chunk_core.proofs.Members.{among_left, among_nil}
use Rattle.chunk_core.specs.Lists.{IsAmong}
use Rattle.chunk_core.specs.Outcomes.{exit_of}
use Rattle.chunk_core.specs.declared.code.Exit.{Exit}
use Rattle.chunk_core.specs.declared.code.How.{How}
use Rattle.res_ledger.proofs.Noted.{notes_opens}
use Rattle.res_ledger.specs.declared.event.Event.{Event}
use Rattle.res_ledger.specs.declared.event.StreamNo.{StreamNo}
use Rattle.res_ledger.specs.declared.event.StreamNo.TheVariants.{Outer}
use Rattle.res_ledger.specs.declared.event.What.{What}
use Rattle.res_ledger.specs.declared.event.What.TheVariants.{Cancel, Close, Lease, Open}
use Rattle.res_ledger.specs.Ledger.{IsLeased, IsLegal, IsUsable, MayFollow, Notes}
use Rattle.res_ledger.specs.Own.{opens, own}
use Rattle.run_rules.specs.declared.end.EndOf.{EndOf}
use Rattle.run_rules.specs.Exits.{HasExit}
use Rattle.run_rules.specs.Facts.{leased_stream}

module _ (L : List Event) (h : How) (legal : IsLegal L) (none_open : opens (own Outer L) ≡ []) (outer : AllByRecursion (λ e. (e.by ≡ Outer) × (leased_stream e.what ≡ None)) L) (root : (x : Exit) → Notes L Outer (Close 0 x) → x ≡ exit_of h) where
  noted : (P Q : List Event) (e : Event) (k : StreamNo) (w : What) → L ≡ P ++ e ∷ Q → Notes P k w → Notes L k w
  noted P Q e k w is n = (n.0, subst (IsAmong n.0) (sym is) (among_left (e ∷ Q) n.1), n.2, n.3)

  not_below : (P Q : List Event) (e : Event) (s : ℕ) → L ≡ P ++ e ∷ Q → IsUsable P Outer (suc s) → ⊥
  not_below P Q e s is u = ⊎_elim (λ z. let no : suc s ≡ 0 = z in omega (arith, no)) (λ o. among_nil (subst (IsAmong (suc s, o.0)) none_open (notes_opens L Outer (suc s) o.0 (noted P Q e Outer (Open (suc s) o.0) is o.1)))) u.0

  not_leased : (P Q : List Event) (e : Event) (j : ℕ) → L ≡ P ++ e ∷ Q → IsLeased P j → ⊥
  not_leased P Q e j is l =
      let n = noted P Q e l.0 (Lease j l.1) is l.2 in
      let no : Some j ≡ None = sym (ap leased_stream n.3) ∙ (among_each (λ (x : Event). (x.by ≡ Outer) × (leased_stream x.what ≡ None)) n.0 L outer n.1).1 in
      cc

  abbrev outer_end : EndOf
  outer_end = record { who = Outer; how = h }

  told : (e : Event) (P Q : List Event) (v : What) → IsAmong e L → L ≡ P ++ e ∷ Q → e.by ≡ Outer → e.what ≡ v → MayFollow P Outer v → HasExit outer_end v
  told e P Q (Close zero x) m is by what f = root x (e, m, by, what)
  told e P Q (Close (suc s) x) m is by what f = absurd (not_below P Q e s is f)
  told e P Q (Cancel j x) m is by what f = absurd (not_leased P Q e j is f.0)
  told e P Q v m is by what f = tt

  pub reader_exits : AllByRecursion (λ x. HasExit outer_end x.what) L
  reader_exits = each_among (λ (e : Event). HasExit outer_end e.what) L (λ e m.
      let p = among_parts e L m in
      let by : e.by ≡ Outer = (among_each (λ (x : Event). (x.by ≡ Outer) × (leased_stream x.what ≡ None)) e L outer m).0 in
      told e p.0 p.1 e.what m p.2 by refl (subst (λ k. MayFollow p.0 k e.what) by (legal p.0 p.1 e p.2)))
