-- All devices of a run were made and came back.
use Rattle.std.proofs.Common.{◌≡◌, ℕ, zero, suc, ◌+◌, false, nat_eq, List, [], ◌∷◌, ◌++◌, map, length, Option, Some, None, unwrap_or, refl, sym, ◌∙◌, ap, subst, ⊎_elim, arith}
use Rattle.std.proofs.lemmas.Bool.{false_from_ne_true}
use Rattle.std.specs.List.{AllByRecursion, IsDistinct}
use Rattle.std.specs.List.Sorted.{IsPermutation}
use Rattle.chunk_core.specs.Lists.{IsAmong}
use Rattle.chunk_core.specs.Lists.IsAmong.{here, there}
use Rattle.chunk_core.proofs.Distinct.{distinct_head, distinct_tail}
use Rattle.chunk_core.proofs.Each.{each_among}
use Rattle.device_port.specs.Device.{Place, DeviceTold}
use Rattle.device_port.specs.Depot.{DepotTold, Files, KeepsFilesBut, KeepsWritten, content_at}
use Rattle.run_rules.specs.Devices.{IsWrittenBy, KeepsToWhatIsThere}
use Rattle.run_rules.specs.Facts.{at}
use Rattle.stream_parts.specs.Retire.{AreWrittenAlone, Exchanges, HaveOwnOutputs, write_alike}
use Rattle.stream_parts.proofs.Exchanged.{alike_so, outputs_permuted}
use Rattle.res_ledger.proofs.Mapped.{among_map}
use Rattle.joined_runs.specs.Devices.{AreMade, IsUnmadeAt, MadeComeBack}

pub at_among : {A : Type 0} (xs : List A) (i : ℕ) (x : A) → at xs i ≡ Some x → IsAmong x xs
at_among [] i x e = absurd cc
at_among (y ∷ xs) zero x e = let is : y ≡ x = cc in subst (λ z. IsAmong z (y ∷ xs)) is (here xs)
at_among (y ∷ xs) (suc i) x e = there y (at_among xs i x e)

-- what is at a path that didn't change
same_content : (P : List ℕ → Type 0) (f g : Option Files) (path : List ℕ) → KeepsFilesBut P f g → ¬ (P path) → content_at g path ≡ content_at f path
same_content P None None path k n = refl
same_content P (Some f) (Some g) path k n = ⊎_elim (λ p. absurd (n p)) (λ e. ap (λ (o : Option (List ℕ)). Some (unwrap_or o [])) e) (k path)
same_content P None (Some g) path k n = absurd k
same_content P (Some f) None path k n = absurd k

module _ (places : List Place) (w : ℕ → DeviceTold) where
  module _ (files : Option Files) where
    pub made_place : (r n : ℕ) (rows : List ℕ) → AreMade files places n w rows → IsAmong r rows → (p : Place) × (at places r ≡ Some p) × ((w r).place ≡ p)
    made_place r n rows h (here rs) = (h.0.0, h.0.1, h.0.2.place_is)
    made_place r n rows h (there {xs = rs} q m) = made_place r (n + 1) rs h.1 m

    -- rows behind other rows
    pub made_both : (n : ℕ) (rows others : List ℕ) → AreMade files places n w rows → AreMade files places (n + length rows) w others → AreMade files places n w (rows ++ others)
    made_both n [] others h k = let e : n + 0 ≡ n = omega arith in subst (λ m. AreMade files places m w others) e k
    made_both n (r ∷ rows) others h k = (h.0, made_both (n + 1) rows others h.1 (let e : n + suc (length rows) ≡ n + 1 + length rows = omega arith in subst (λ m. AreMade files places m w others) e k))

    -- they were made as well over other files, that are the same at their paths
    pub made_elsewhere : (other : Option Files) (n : ℕ) (rows : List ℕ) → AreMade other places n w rows → ((r : ℕ) (p : Place) → IsAmong r rows → at places r ≡ Some p → content_at other p.path ≡ content_at files p.path) → AreMade files places n w rows
    made_elsewhere other n [] h same = tt
    made_elsewhere other n (r ∷ rows) h same =
        let is = h.0.2 in (
          (h.0.0, h.0.1, record { number_is = is.number_is; place_is = is.place_is; content_is = is.content_is ∙ same r h.0.0 (here rows) h.0.1; rest = is.rest }),
          made_elsewhere other (n + 1) rows h.1 (λ q p m e. same q p (there r m) e),
        )

  module _ (alone : AreWrittenAlone places) where
    -- where devices of some rows came back, the files at the places of other rows are as they were
    pub content_kept : (old now : DepotTold) (ps : List Place) (back : List DeviceTold) → Exchanges old now ps back → (rows : List ℕ) → ((d : DeviceTold) → IsAmong d back → (r : ℕ) × IsAmong r rows × (w r ≡ d)) → ((r : ℕ) → IsAmong r rows → at places r ≡ Some (w r).place)
        → (q : ℕ) (p : Place) → at places q ≡ Some p → ¬ (IsAmong q rows) → content_at now.files p.path ≡ content_at old.files p.path
    content_kept old now ps back e rows from placed q p is n = same_content (IsWrittenBy back) old.files now.files p.path e.files (λ by.
        let r = from by.0 by.1 in
        let same : q ≡ r.0 = sym (alone r.0 q (w r.0).place p (placed r.0 r.1) is (ap (λ (d : DeviceTold). d.place.mode) r.2 ∙ by.2) (ap (λ (d : DeviceTold). d.place.path) r.2 ∙ sym by.4)) in
        n (subst (λ k. IsAmong k rows) (sym same) r.1))

    own_outputs : (rows : List ℕ) → IsDistinct nat_eq rows → ((r : ℕ) → IsAmong r rows → at places r ≡ Some (w r).place) → HaveOwnOutputs (map w rows)
    unfolding IsDistinct
    own_outputs [] d placed = tt
    own_outputs (r ∷ rows) d placed = (
      each_among (λ x. write_alike (w r) x ≡ false) (map w rows) (λ x m.
          false_from_ne_true (write_alike (w r) x) (λ t.
          let q = among_map w x rows m in
          let a = alike_so (w r) x t in
          let same : r ≡ q.0 = alone r q.0 (w r).place (w q.0).place (placed r (here rows)) (placed q.0 (there r q.1)) a.0 (a.2 ∙ sym (ap (λ (y : DeviceTold). y.place.path) q.2)) in
          distinct_head r rows d (subst (λ k. IsAmong k rows) (sym same) q.1))),
      own_outputs rows (distinct_tail r rows d) (λ q m. placed q (there r m)),
    )

    module _ (old new : DepotTold) (ps : List Place) (rows : List ℕ) (back : List DeviceTold) (e : Exchanges old new ps back) (each : IsPermutation (map w rows) back) (placed : (r : ℕ) → IsAmong r rows → at places r ≡ Some (w r).place) where
      pub stored_so : IsDistinct nat_eq rows → AllByRecursion (KeepsWritten new.files) back
      stored_so apart = e.stored (outputs_permuted (map w rows) back each (own_outputs rows apart placed))

    -- the devices that were made for some rows came back, in any order
    pub come_back : (old new : DepotTold) (rows : List ℕ) (back : List DeviceTold) → Exchanges old new (map (λ r. (w r).place) rows) back → IsDistinct nat_eq rows → IsPermutation (map w rows) back → AreMade old.files places (length old.made) w rows
        → ((r : ℕ) (p : Place) → at places r ≡ Some p → ¬ (IsAmong r rows) → IsUnmadeAt old.files p (w r)) → AllByRecursion KeepsToWhatIsThere back → MadeComeBack old new places w
    come_back old new rows back e apart each devices others opened =
        let placed : (r : ℕ) → IsAmong r rows → at places r ≡ Some (w r).place = λ r m. let p = made_place old.files r (length old.made) rows devices m in p.1 ∙ ap Some (sym p.2) in
        record {
          rows = rows;
          apart = apart;
          made = e.made;
          back = back;
          retired = e.retired;
          each = each;
          devices = devices;
          others = others;
          files = e.files;
          stored = stored_so old new (map (λ r. (w r).place) rows) rows back e each placed apart;
          there = opened;
        }
