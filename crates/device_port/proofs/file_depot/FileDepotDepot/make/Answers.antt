use Rattle.std.proofs.Common.{◌≡◌, ℕ, ap, sym, ◌∙◌, subst, None, false}
use Rattle.device_port.specs.Device.{Place, DeviceTold}
use Rattle.device_port.specs.Depot.{CourseTold, IsUnknown}
use Rattle.device_port.specs.Real.{file_told}
use Rattle.device_port.proofs.Depots.{next_unknown, course_made}
use Rattle.device_port.proofs.file_depot.FileDepotDepot.make.Goals as goal

-- a device that tells no content and was just made
abbrev untold : ℕ → Place → DeviceTold
untold n p = record { number = n; place = p; present = None; content = None; at = 0; ended = false; written = None; is_open = false; opens = 0; closes = 0; exit = None; open_faults = 0; read_faults = 0; write_faults = 0; close_faults = 0 }

pub returns-clause-made : goal.returns-clause-made
returns-clause-made g c =
    let d = c.args.self.now in
    let course : CourseTold = d.course in
    let place : Place = record { path = c.args.path.now; mode = c.args.mode } in
    let path = ap (λ w. let q : Place = record { path = w; mode = c.args.mode } in q) (c.in_ok-path.ensures ∙ c.as_str.ensures) in
    let device : file_told c.new-dev.result ≡ untold d.count place = c.new-dev.ensures ∙ ap (λ q. untold d.count q) path in
    record {
      made = course_made course _ (file_told c.new-dev.result) place c.step.ensures (ap (λ (t : DeviceTold). t.place) device);
      device = device ∙ ap (λ n. untold n place) (sym d.counted);
      unknown = subst (λ n. IsUnknown n course.retired) (sym (ap (λ (t : DeviceTold). t.number) device)) (next_unknown d.count course.retired d.below);
    }
