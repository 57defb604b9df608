-- Which handles a seat fits.
use Rattle.std.proofs.Common.{◌≡◌, ◌≢◌, ℕ, true, false, refl, sym, ◌∙◌, subst, zero-le, []}
use Rattle.std.specs.Arc.{arc_value}
use Rattle.std.specs.declared.vec.Vec.{Vec}
use Rattle.chunk_core.proofs.Filters.{bool_not}
use Rattle.chunk_core.proofs.Members.{among_nil}
use Rattle.res_ledger.specs.declared.event.StreamNo.{StreamNo}
use Rattle.res_ledger.specs.declared.event.StreamNo.TheVariants.{Inner, Outer}
use Rattle.row_seat.specs.Rule.{IsInside}
use Rattle.row_seat.specs.Views.{OthersFit}
use Rattle.row_seat.specs.declared.token.Token.{Token}
use Rattle.row_shared.specs.Places.{KnowsItself, idle}
use Rattle.row_shared.specs.Seats.{SharedFits, shown}
use Rattle.row_shared.specs.declared.seat.SharedSeat.{SharedSeat}
use Rattle.row_shared.specs.declared.seat.TableRef.{TableRef}

-- a seat that isn't the main one fits a handle that another seat fits, where both fit one
module _ {P : Type 0} (s o : SharedSeat P) (d d' : TableRef P) where
  pub fits_other : SharedFits s d → SharedFits s d' → SharedFits o d' → o.pass.me.0.token.main ≡ false → SharedFits o d
  fits_other a b h side = let e : (arc_value d'.table).shared.table_id ≡ (arc_value d.table).shared.table_id = sym b.table.0 ∙ a.table.0 in record {
    table = (h.table.0 ∙ e, a.table.1, a.table.2);
    calm = h.calm;
    by = h.by;
    first = λ m. absurd (bool_not (sym m ∙ side));
    inside = subst (λ z. IsInside z.slots o.pass.me.0.token) e h.inside;
    itself = h.itself;
    held = h.held;
    noted = h.noted;
    whole = λ m. absurd (bool_not (sym m ∙ side));
    hold = h.hold;
    pages = λ m. absurd (bool_not (sym m ∙ side));
    leaves = h.leaves;
  }

-- the vector without its elements
abbrev emptied : {X Z : Type 0} → Vec X Z → Vec X Z
emptied v = record { ptr = v.ptr; len = 0; cap = v.cap; alloc = v.alloc; items = []; ok = (refl, zero-le); small = v.small }

-- a name other than k
abbrev another : StreamNo → StreamNo
another Outer = Inner 0
another (Inner n) = Outer

-- the name is that of an inner stream
abbrev IsInner : StreamNo → Type 0
IsInner Outer = ⊥
IsInner (Inner n) = Unit {0}

another_is : (k : StreamNo) → another k ≢ k
another_is Outer e = subst IsInner e tt
another_is (Inner n) e = subst IsInner (sym e) tt

-- a seat that nobody has fits where s fits: of another name than k, with no row, no event and no right
module _ {P : Type 0} (s : SharedSeat P) (k : StreamNo) where
  -- what such a seat knows
  abbrev nothing : Token P
  nothing = record { live = true; main = false; by = another k; empty = []; opened = []; pairs = []; kept = []; handed = []; taken = []; given = []; left = []; events = []; floor = 0; spare = 0; had = []; out = []; splits = 0 }

  -- that seat, at the table of s
  abbrev stranger : SharedSeat P
  stranger = record { by = another k; pass = record s.pass { me = idle nothing }; hands = emptied s.hands; events = emptied s.events }

  inside : (n : ℕ) → IsInside n nothing
  inside n = record { empty = λ r m. absurd (among_nil m); opened = λ r m. absurd (among_nil m); pairs = λ j r m. absurd (among_nil m); handed = λ r m. absurd (among_nil m); few = zero-le }

  itself : KnowsItself nothing
  itself = record { rows = λ r a. absurd (among_nil a.2.1); names = λ e m. absurd (among_nil m); pure = λ f e m. absurd (among_nil m); outs = λ m a. absurd (among_nil a) }

  stranger_fits : (d : TableRef P) → SharedFits s d → SharedFits stranger d
  stranger_fits d h = record {
    table = h.table;
    calm = (refl, refl);
    by = refl;
    first = λ m. absurd (bool_not (sym m));
    inside = inside _;
    itself = itself;
    held = refl;
    noted = refl;
    whole = λ m. absurd (bool_not (sym m));
    hold = λ m. zero-le;
    pages = λ m. absurd (bool_not (sym m));
    leaves = λ m. zero-le;
  }

-- what is done at a handle leaves it at its table, since it leaves the fit of a seat that nobody has
pub calls_stay : {P : Type 0} (s o : SharedSeat P) (k : StreamNo) (d e : TableRef P) → SharedFits s d → OthersFit shown SharedFits k d e → (shown o).main ≡ false → SharedFits o e → SharedFits o d
calls_stay s o k d e fit others side h =
    let f = stranger_fits s k d fit in
    fits_other (stranger s k) o d e f (others (stranger s k) (another_is k) f) h side

-- what is done at a handle leaves it at its table
pub same_table : {P : Type 0} (s : SharedSeat P) (k : StreamNo) (d e : TableRef P) → SharedFits s d → OthersFit shown SharedFits k d e → (arc_value d.table).shared.table_id ≡ (arc_value e.table).shared.table_id
same_table s k d e fit others = let o = others (stranger s k) (another_is k) (stranger_fits s k d fit) in sym fit.table.0 ∙ o.table.0
