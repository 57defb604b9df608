-- Tables that come out one after another.
use Rattle.std.proofs.Common.{◌≡◌, ℕ, suc, ◌+◌, ◌≤◌, List, [], ◌∷◌, ◌++◌, length, Option, Some, None, refl, ap, subst, arith}
use Rattle.device_port.specs.Device.{DeviceTold}
use Rattle.device_port.specs.Depot.{Files}
use Rattle.outer_tables.specs.declared.not_read.NotRead.{NotRead}
use Rattle.outer_tables.specs.Outcomes.{ComeOut}
use Rattle.outer_tables.specs.Outcomes.ComeOut.{none, read, closed, unread, refused, unmade, cut}

module _ {V : Type 0} {told : V → DeviceTold} {files : Option Files} where
  -- where all were read, each has its device and its content, and none came back
  pub all_opened : {n : ℕ} {paths bss : List (List ℕ)} {ds : List V} {back : List DeviceTold} → ComeOut told files n paths ds back bss None → length ds ≡ length paths
  all_opened none = refl
  all_opened (read d g fine o) = ap suc (all_opened o)

  pub none_back : {n : ℕ} {paths bss : List (List ℕ)} {ds : List V} {back : List DeviceTold} → ComeOut told files n paths ds back bss None → back ≡ []
  none_back none = refl
  none_back (read d g fine o) = none_back o

  -- no more are tried than there are
  pub few_tried : {n : ℕ} {paths bss : List (List ℕ)} {ds : List V} {back : List DeviceTold} {w : Option NotRead} → ComeOut told files n paths ds back bss w → length ds + length back ≤ length paths
  few_tried none = omega arith
  few_tried (read d g fine o) = let t = few_tried o in omega (t, arith)
  few_tried closed = omega arith
  few_tried (unread d r) = omega arith
  few_tried (refused d bytes f g r) = omega arith
  few_tried unmade = omega arith
  few_tried (cut d r) = omega arith

  -- where not all were read, the tables behind are untried
  pub out_more : {n : ℕ} {paths bss : List (List ℕ)} {ds : List V} {back : List DeviceTold} {w : NotRead} (rest : List (List ℕ)) → ComeOut told files n paths ds back bss (Some w) → ComeOut told files n (paths ++ rest) ds back bss (Some w)
  out_more rest (read d g fine o) = read d g fine (out_more rest o)
  out_more rest closed = closed
  out_more rest (unread d r) = unread d r
  out_more rest (refused d bytes f g r) = refused d bytes f g r
  out_more rest unmade = unmade
  out_more rest (cut d r) = cut d r

  -- where all were read, the tables behind come out as they do
  pub out_then : {n : ℕ} {paths qaths bss css : List (List ℕ)} {ds es : List V} {no back : List DeviceTold} {w : Option NotRead} → ComeOut told files n paths ds no bss None → ComeOut told files (n + length paths) qaths es back css w → ComeOut told files n (paths ++ qaths) (ds ++ es) back (bss ++ css) w
  out_then {n = n} {qaths = qaths} {css = css} {es = es} {back = back} {w = w} none h = subst (λ k. ComeOut told files k qaths es back css w) (let e : n + 0 ≡ n = omega arith in e) h
  out_then {n = n} {paths = p ∷ ps} {qaths = qaths} {css = css} {es = es} {back = back} {w = w} (read d g fine o) h =
      read d g fine (out_then o (subst (λ k. ComeOut told files k qaths es back css w) (let e : n + suc (length ps) ≡ suc n + length ps = omega arith in e) h))
