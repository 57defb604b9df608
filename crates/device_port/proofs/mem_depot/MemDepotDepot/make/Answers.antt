use Rattle.std.proofs.Common.{◌≡◌, ◌++◌, ◌∷◌, [], List, map, ap, sym, ◌∙◌, subst, length}
use Rattle.std.proofs.lemmas.List.{length-map}
use Rattle.device_port.specs.Device.{Place}
use Rattle.device_port.specs.Depot.{IsUnknown}
use Rattle.device_port.specs.Records.{record_told}
use Rattle.device_port.specs.Files.{place_of}
use Rattle.device_port.specs.declared.files.PlaceOf.{PlaceOf}
use Rattle.device_port.proofs.Depots.{next_unknown}
use Rattle.device_port.proofs.MemDepots.{made_more}
use Rattle.device_port.proofs.mem_depot.MemDepotDepot.make.Goals as goal

pub returns-clause-made : goal.returns-clause-made
returns-clause-made c =
    let d = c.args.self.now in
    let p : PlaceOf = record { path = c.in_ok-of.field-0; mode = c.args.mode } in
    let told = ap record_told c.new.ensures.facts ∙ c.in_ok-facts.ensures.told in
    let number : c.new.result.facts.number ≡ length (map place_of d.made.items) = ap (λ t. t.number) told in
    let count : length (map place_of d.made.items) ≡ d.made.len = length-map d.made.items place_of ∙ sym d.made.ok.0 in
    record {
      made = made_more d.files d.retired.items c.reserve-2.new.self.items d.made.items c.push_reserved.new.self.items p _ c.in_ok-reserve-2.ensures.items
          (c.push_reserved.ensures.items ∙ ap (λ (xs : List PlaceOf). xs ++ p ∷ []) c.in_ok-reserve.ensures.items) (ap (λ w. let q : Place = record { path = w; mode = c.args.mode } in q) (c.in_ok-of.ensures ∙ c.as_str-2.ensures));
      device = told;
      unknown = subst (λ n. IsUnknown n (map record_told d.retired.items)) (sym (number ∙ count)) (next_unknown d.made.len (map record_told d.retired.items) d.below);
    }
