use Rattle.std.proofs.Common.{◌≡◌, ◌<◌, ◌++◌, ◌∷◌, [], List, map, sym, ap, ◌∙◌, arith, subst, length, vec_len}
use Rattle.std.proofs.lemmas.List.{length-map, map-append}
use Rattle.device_port.specs.Depot.{HaveOwnNumbers, AreBelow}
use Rattle.device_port.specs.Records.{record_told}
use Rattle.device_port.specs.Files.{place_of, bytes_at}
use Rattle.device_port.specs.declared.record.Record.{Record}
use Rattle.device_port.proofs.Depots.{apart_more, below_more}
use Rattle.device_port.proofs.MemDepots.{room_for, bytes_more, files_more, stored_there}
use Rattle.device_port.proofs.mem_depot.MemDepotDepot.retire.Goals as goal

pub push_reserved-requires : goal.push_reserved-requires
push_reserved-requires c =
    let d = c.args.self.now in
    let made : c.args.dev.facts.number < vec_len d.made = omega (arith, c.requires.made, length-map d.made.items place_of, d.made.ok.0) in
    let less : length d.retired.items < vec_len d.made = room_for d.retired.items c.args.dev.facts (vec_len d.made) d.apart d.below made c.requires.unknown in
    omega (arith, less, d.room, d.retired.ok.0)

pub invariant_of-self-clause-apart : goal.invariant_of-self-clause-apart
invariant_of-self-clause-apart c =
    let d = c.args.self.now in
    let items : c.push_reserved.new.self.items ≡ d.retired.items ++ c.args.dev.facts ∷ [] = c.push_reserved.ensures.items ∙ ap (λ r. d.retired.items ++ r ∷ []) c.into_facts.ensures in
    subst (λ (rs : List Record). HaveOwnNumbers (map record_told rs)) (sym items)
    (subst HaveOwnNumbers (sym (map-append record_told d.retired.items (c.args.dev.facts ∷ []))) (apart_more (map record_told d.retired.items) (record_told c.args.dev.facts) d.apart c.requires.unknown))

pub invariant_of-self-clause-below : goal.invariant_of-self-clause-below
invariant_of-self-clause-below c =
    let d = c.args.self.now in
    let made : c.args.dev.facts.number < vec_len d.made = omega (arith, c.requires.made, length-map d.made.items place_of, d.made.ok.0) in
    let items : c.push_reserved.new.self.items ≡ d.retired.items ++ c.args.dev.facts ∷ [] = c.push_reserved.ensures.items ∙ ap (λ r. d.retired.items ++ r ∷ []) c.into_facts.ensures in
    subst (λ (rs : List Record). AreBelow (vec_len d.made) (map record_told rs)) (sym items)
    (subst (AreBelow (vec_len d.made)) (sym (map-append record_told d.retired.items (c.args.dev.facts ∷ []))) (below_more (vec_len d.made) (map record_told d.retired.items) (record_told c.args.dev.facts) d.below made))

pub returns-clause-files : goal.returns-clause-files
returns-clause-files c path =
    let d = c.args.self.now in
    let items : c.push_reserved.new.self.items ≡ d.retired.items ++ c.args.dev.facts ∷ [] = c.push_reserved.ensures.items ∙ ap (λ r. d.retired.items ++ r ∷ []) c.into_facts.ensures in
    rw items (files_more d.files d.retired.items c.args.dev.facts path)

pub returns-clause-stored : goal.returns-clause-stored
returns-clause-stored c path =
    let d = c.args.self.now in
    let items : c.push_reserved.new.self.items ≡ d.retired.items ++ c.args.dev.facts ∷ [] = c.push_reserved.ensures.items ∙ ap (λ r. d.retired.items ++ r ∷ []) c.into_facts.ensures in
    ap (λ rs. bytes_at d.files rs path) items ∙ bytes_more d.files d.retired.items c.args.dev.facts path

pub returns-clause-written : goal.returns-clause-written
returns-clause-written c m o =
    let d = c.args.self.now in
    let r = c.args.dev.facts in
    let items : c.push_reserved.new.self.items ≡ d.retired.items ++ r ∷ [] = c.push_reserved.ensures.items ∙ ap (λ x. d.retired.items ++ x ∷ []) c.into_facts.ensures in
    ap (λ rs. bytes_at d.files rs r.path) items ∙ stored_there d.files d.retired.items r m o
