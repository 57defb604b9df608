use Rattle.std.proofs.Common.{◌≡◌, ◌∙◌, sym, length}
use Rattle.std.specs.List.{list_all, zip}
use Rattle.std.specs.Str.{bytes_eq}
use Rattle.stream_ops.proofs.Differing.{fields_same}
use Rattle.stream_ops.proofs.compared.RowCompared.is_same.Goals as goal

pub returns-then-len : goal.returns-then-len
returns-then-len c =
    let len : length c.args.self.now ≡ length c.args.other.now = sym c.len.ensures ∙ (c.if-len.true ∙ c.len-2.ensures) in
    c.same_fields.ensures
    ∙ ((λ i. list_all (λ p. bytes_eq p.0 p.1) (zip (c.as_slice.ensures i) (c.as_slice-then-len.ensures i))) ∙ fields_same c.args.self.now c.args.other.now len)
