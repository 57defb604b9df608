-- There is one device, or none.
use Rattle.std.proofs.Common.{[], ◌∷◌, map, subst, sym}
use Rattle.std.proofs.lemmas.List.Sorted.{IsPermutation-refl}
use Rattle.stream_parts.specs.Retire.{Returns}
use Rattle.stream_parts.proofs.Exchanged.{exchange_back}
use Rattle.rotate_run.specs.Rans.{waiting_of}
use Rattle.rotate_run.proofs.back.retire_one.Goals as goal

pub returns-in-Some : goal.returns-in-Some
returns-in-Some g c =
    let now = g.D.Depot.told c.args.depot.now in
    let new = g.D.Depot.told c.retire.new.self in
    let d = g.D.Dev.Device.told c.in-Some.device in
    let e = c.retire.ensures in
    subst (λ o. Returns now new (map (λ x. g.D.Dev.Device.told x) (waiting_of o))) (sym c.in-Some.is) (record { back = d ∷ []; each = IsPermutation-refl (d ∷ []); exchanges = exchange_back now new d e.retired e.made e.files e.written })
