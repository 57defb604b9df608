-- What tests of lists, of options and of events decide.
use Rattle.std.proofs.Common.{◌≡◌, ◌≢◌, ◌⊎◌, ℕ, ◌+◌, ◌<◌, ◌≤◌, zero, suc, Bool, true, false, ◌&&◌, ◌||◌, not, nat_eq, nat_le, nat_lt, List, [], ◌∷◌, ◌++◌, length, Option, Some, None, IfSome, inl, inr, refl, sym, ap, ◌∙◌, subst, ⊎_elim, arith}
use Rattle.std.specs.Prelude.{is_some}
use Rattle.std.specs.Bool.{Decides}
use Rattle.std.specs.List.{list_any as any, list_all as all, range_with_len, AllByRecursion}
use Rattle.std.specs.Str.{bytes_eq}
use Rattle.std.proofs.lemmas.Bool.{false≢true, le-leb, leb-true, lt-ltb, ltb-true}
use Rattle.std.proofs.lemmas.Slice.Eq.{bytes_eq-Decides}
use Rattle.chunk_core.specs.Lists.{IsAmong}
use Rattle.chunk_core.specs.declared.code.How.{How}
use Rattle.chunk_core.specs.declared.code.How.TheVariants as how
use Rattle.chunk_core.proofs.Bools.{all_at, and_true, any_at, any_found, both, each_passes, either, has_in, in_has, itself, no, number, or_left, or_right, tested}
use Rattle.chunk_core.proofs.Each.{among_each, each_among}
use Rattle.res_ledger.specs.declared.event.StreamNo.{StreamNo}
use Rattle.res_ledger.specs.declared.event.StreamNo.TheVariants.{Inner, Outer}
use Rattle.res_ledger.specs.declared.event.Event.{Event}
use Rattle.res_ledger.specs.Judge.{each_after}
use Rattle.res_ledger.specs.Ledger.{NotesClose}
use Rattle.res_ledger.specs.Own.{closes, own}
use Rattle.res_ledger.specs.Streams.{by_stream, same_stream}
use Rattle.res_ledger.specs.Whole.{is_cancel}
use Rattle.res_ledger.proofs.Judged.{each_event, each_split}
use Rattle.res_ledger.proofs.Ledgers.{by_in, by_out}
use Rattle.res_ledger.proofs.Noted.{closes_notes, is_cancel_shape, notes_closes}
use Rattle.res_ledger.proofs.Permuted.{among_range, range_among}
use Rattle.res_ledger.proofs.Tests.{name, named}
use Rattle.device_port.specs.declared.device.Mode.{Mode}
use Rattle.device_port.specs.declared.device.Mode.TheVariants as mode
use Rattle.device_port.specs.Device.{Place}
use Rattle.run_rules.specs.Facts.{Acts, HasLeft, IsFailure, IsOver, acts, at, first_numbers, has_left, is_fault, is_halted, is_memory, is_mode, holds_number, is_over, is_place}
use Rattle.run_laws.specs.EndTests.{is_root_closed}

-- Tests in general.

pub Decides-to : {P Q : Type 0} (b : Bool) → (P → Q) → (Q → P) → Decides b P → Decides b Q
Decides-to b f g d = (λ e. f (d.0 e), λ q. d.1 (g q))

pub always : Decides true (Unit {0})
always = (λ e. tt, λ u. refl)

-- a flag is its own test
pub flag : (b : Bool) → Decides b (b ≡ true)
flag b = (λ e. e, λ e. e)

pub at_most : (a b : ℕ) → Decides (nat_le a b) (a ≤ b)
at_most a b = (λ e. leb-true a b e, λ l. le-leb a b l)

pub less : (a b : ℕ) → Decides (nat_lt a b) (a < b)
less a b = (λ e. ltb-true a b e, λ l. lt-ltb a b l)

pub same_number : (a b : ℕ) → Decides (nat_eq a b) (a ≡ b)
same_number a b = (λ e. number a b e, λ e. subst (λ x. nat_eq a x ≡ true) e (itself a))

pub and_so : {P Q : Type 0} (a b : Bool) → Decides a P → Decides b Q → Decides (a && b) (P × Q)
and_so a b d e = (λ h. let t = both a b h in (d.0 t.0, e.0 t.1), λ h. and_true a b (d.1 h.0) (e.1 h.1))

pub or_so : {P Q : Type 0} (a b : Bool) → Decides a P → Decides b Q → Decides (a || b) (P ⊎ Q)
or_so a b d e = (λ h. ⊎_elim (λ x. inl (d.0 x)) (λ y. inr (e.0 y)) (either a b h), λ h. ⊎_elim (λ x. or_left a b (d.1 x)) (λ y. or_right a b (e.1 y)) h)

pub if_so : {P Q : Type 0} (a b : Bool) → Decides a P → Decides b Q → Decides (not a || b) (P → Q)
if_so a b d e = (λ h p. ⊎_elim (λ n. absurd (no a n (d.1 p))) (λ y. e.0 y) (either (not a) b h), λ f. ⊎_elim (λ t. or_right (not a) b (e.1 (f (d.0 t)))) (λ n. or_left (not a) b n) (tested a))

pub not_so : {P : Type 0} (a : Bool) → Decides a P → Decides (not a) (¬ P)
not_so a d = (λ h p. no a h (d.1 p), λ n. ⊎_elim (λ t. absurd (n (d.0 t))) (λ h. h) (tested a))

-- Lists.

pub all_so : {A : Type 0} (p : A → Bool) (P : A → Type 0) → ((x : A) → Decides (p x) (P x)) → (xs : List A) → Decides (all p xs) ((x : A) → IsAmong x xs → P x)
all_so p P d xs = (λ h x m. (d x).0 (all_at p x xs m h), λ f. each_passes p xs (λ x m. (d x).1 (f x m)))

pub each_so : {A : Type 0} (p : A → Bool) (P : A → Type 0) → ((x : A) → Decides (p x) (P x)) → (xs : List A) → Decides (all p xs) (AllByRecursion P xs)
each_so p P d xs = Decides-to (all p xs) (λ f. each_among P xs f) (λ h x m. among_each P x xs h m) (all_so p P d xs)

pub any_so : {A : Type 0} (p : A → Bool) (P : A → Type 0) → ((x : A) → Decides (p x) (P x)) → (xs : List A) → Decides (any p xs) ((x : A) × IsAmong x xs × P x)
any_so p P d xs = (λ h. let f = any_found p xs h in (f.0, f.1, (d f.0).0 f.2), λ f. any_at p f.0 xs f.1 ((d f.0).1 f.2))

-- each event of a ledger, on those before it
pub after_so : (test : List Event → Event → Bool) (P : List Event → Event → Type 0) → ((A : List Event) (e : Event) → Decides (test A e) (P A e)) → (L : List Event) → Decides (each_after test [] L) ((A B : List Event) (e : Event) → L ≡ A ++ e ∷ B → P A e)
after_so test P d L = (λ h A B e is. (d A e).0 (each_event test L A B e h is), λ f. each_split test L (λ A B e is. (d A e).1 (f A B e is)))

pub below_so : (p : ℕ → Bool) (P : ℕ → Type 0) → ((k : ℕ) → Decides (p k) (P k)) → (a n : ℕ) → Decides (all p (range_with_len a n)) ((k : ℕ) → a ≤ k → k < a + n → P k)
below_so p P d a n = Decides-to (all p (range_with_len a n)) (λ f k l m. f k (range_among a n k l m)) (λ f k i. let b = among_range a n k i in f k b.0 b.1) (all_so p P d (range_with_len a n))

pub first_so : (p : ℕ → Bool) (P : ℕ → Type 0) → ((k : ℕ) → Decides (p k) (P k)) → (n : ℕ) → Decides (all p (first_numbers n)) ((k : ℕ) → k < n → P k)
first_so p P d n = Decides-to (all p (first_numbers n)) (λ f k l. f k (omega arith) (omega (arith, l))) (λ f k z l. f k (omega (arith, l))) (below_so p P d 0 n)

-- what stands at a place stands below the length
pub at_below : {A : Type 0} (xs : List A) (i : ℕ) (x : A) → at xs i ≡ Some x → i < length xs
at_below [] i x e = let n : ⊥ = cc in absurd n
at_below (y ∷ xs) zero x e = omega arith
at_below (y ∷ xs) (suc i) x e = let l = at_below xs i x e in omega (arith, l)

-- Options.

none_some : {A : Type 0} (x : A) → None ≢ Some x
none_some x e = cc

pub some_is : {A : Type 0} (x y : A) → Some x ≡ Some y → x ≡ y
some_is x y e = cc

pub some_so : {A : Type 0} (o : Option A) → Decides (is_some o) (o ≢ None)
some_so None = (λ h. absurd (false≢true h), λ n. absurd (n refl))
some_so (Some x) = (λ h e. none_some x (sym e), λ n. refl)

pub number_so : (o : Option ℕ) (n : ℕ) → Decides (holds_number o n) (o ≡ Some n)
number_so None n = (λ h. absurd (false≢true h), λ e. absurd (none_some n e))
number_so (Some m) n = Decides-to (nat_eq m n) (λ e. ap Some e) (λ e. some_is m n e) (same_number m n)

pub if_some_so : {A : Type 0} (o : Option A) (p : A → Bool) (P : A → Type 0) → ((x : A) → Decides (p x) (P x)) → Decides (elim o [ Some x ↦ p x | None ↦ true ]) (IfSome o P)
if_some_so None p P d = always
if_some_so (Some x) p P d = d x

pub each_some_so : {A : Type 0} (o : Option A) (p : A → Bool) (P : A → Type 0) → ((x : A) → Decides (p x) (P x)) → Decides (elim o [ Some x ↦ p x | None ↦ true ]) ((x : A) → o ≡ Some x → P x)
each_some_so None p P d = (λ h x e. absurd (none_some x e), λ f. refl)
each_some_so (Some y) p P d = (λ h x e. subst P (some_is y x e) ((d y).0 h), λ f. (d y).1 (f y refl))

pub found_so : {A : Type 0} (o : Option A) (p : A → Bool) (P : A → Type 0) → ((x : A) → Decides (p x) (P x)) → Decides (elim o [ Some x ↦ p x | None ↦ false ]) ((x : A) × (o ≡ Some x) × P x)
found_so None p P d = (λ h. absurd (false≢true h), λ f. absurd (none_some f.0 f.1))
found_so (Some y) p P d = (λ h. (y, refl, (d y).0 h), λ f. (d y).1 (subst P (sym (some_is y f.0 f.1)) f.2))

-- Names, places and ends.

pub same_stream_so : (j k : StreamNo) → Decides (same_stream j k) (j ≡ k)
same_stream_so j k = (λ h. name j k h, λ e. subst (λ x. same_stream j x ≡ true) e (named j))

-- of an inner stream
pub inner_so : (s : StreamNo) (p : ℕ → Bool) (P : ℕ → Type 0) → ((k : ℕ) → Decides (p k) (P k)) → Decides (elim s [ Inner k ↦ p k | Outer ↦ true ]) ((k : ℕ) → s ≡ Inner k → P k)
inner_so Outer p P d = (λ h k e. let n : ⊥ = cc in absurd n, λ f. refl)
inner_so (Inner j) p P d = (λ h k e. let i : j ≡ k = cc in subst P i ((d j).0 h), λ f. (d j).1 (f j refl))

pub same_mode : (m n : Mode) → Decides (is_mode m n) (m ≡ n)
same_mode mode.Read mode.Read = (λ h. refl, λ e. refl)
same_mode mode.Write mode.Write = (λ h. refl, λ e. refl)
same_mode mode.Read mode.Write = (λ h. absurd (false≢true h), λ e. let n : ⊥ = cc in absurd n)
same_mode mode.Write mode.Read = (λ h. absurd (false≢true h), λ e. let n : ⊥ = cc in absurd n)

pub same_place : (p q : Place) → Decides (is_place p q) (p ≡ q)
same_place p q = Decides-to (is_place p q)
    (λ h. ap (λ (x : List ℕ). record { path = x; mode = p.mode }) h.0 ∙ ap (λ (m : Mode). record { path = q.path; mode = m }) h.1)
    (λ e. (ap (λ (x : Place). x.path) e, ap (λ (x : Place). x.mode) e))
    (and_so (bytes_eq p.path q.path) (is_mode p.mode q.mode) (bytes_eq-Decides p.path q.path) (same_mode p.mode q.mode))

pub fault_so : (h : How) → Decides (is_fault h) (IsFailure h)
fault_so (how.Fault c) = (λ e. (c, refl), λ f. refl)
fault_so how.Done = (λ e. absurd (false≢true e), λ f. let e = f.1 in let n : ⊥ = cc in absurd n)
fault_so how.Halted = (λ e. absurd (false≢true e), λ f. let e = f.1 in let n : ⊥ = cc in absurd n)
fault_so how.Memory = (λ e. absurd (false≢true e), λ f. let e = f.1 in let n : ⊥ = cc in absurd n)

pub halted_so : (h : How) → Decides (is_halted h) (h ≡ how.Halted)
halted_so how.Halted = (λ e. refl, λ f. refl)
halted_so (how.Fault c) = (λ e. absurd (false≢true e), λ f. let n : ⊥ = cc in absurd n)
halted_so how.Done = (λ e. absurd (false≢true e), λ f. let n : ⊥ = cc in absurd n)
halted_so how.Memory = (λ e. absurd (false≢true e), λ f. let n : ⊥ = cc in absurd n)

pub memory_so : (h : How) → Decides (is_memory h) (h ≡ how.Memory)
memory_so how.Memory = (λ e. refl, λ f. refl)
memory_so (how.Fault c) = (λ e. absurd (false≢true e), λ f. let n : ⊥ = cc in absurd n)
memory_so how.Done = (λ e. absurd (false≢true e), λ f. let n : ⊥ = cc in absurd n)
memory_so how.Halted = (λ e. absurd (false≢true e), λ f. let n : ⊥ = cc in absurd n)

over_by : (h : How) → IsOver h → is_over h ≡ true
over_by h (inl e) = subst (λ x. is_over x ≡ true) (sym e) refl
over_by h (inr f) = subst (λ x. is_over x ≡ true) (sym f.1) refl

pub over_so : (h : How) → Decides (is_over h) (IsOver h)
over_so how.Done = (λ e. inl refl, λ f. refl)
over_so (how.Fault c) = (λ e. inr (c, refl), λ f. refl)
over_so how.Halted = (λ e. absurd (false≢true e), λ f. over_by how.Halted f)
over_so how.Memory = (λ e. absurd (false≢true e), λ f. over_by how.Memory f)

-- Events.

pub acts_so : (k : StreamNo) (L : List Event) → Decides (acts k L) (Acts k L)
acts_so k L = any_so (λ e. same_stream e.by k) (λ e. e.by ≡ k) (λ e. same_stream_so e.by k) L

pub left_so : (j : ℕ) (L : List Event) → Decides (has_left j L) (HasLeft j L)
left_so j L = (
  λ h. let f = any_found (λ e. is_cancel j e.what) (by_stream (Inner j) L) h in let i = by_in (Inner j) L f.0 f.1 in let w = is_cancel_shape j f.0.what f.2 in (w.0, (f.0, i.0, i.1, w.1)),
  λ n. any_at (λ e. is_cancel j e.what) n.1.0 (by_stream (Inner j) L) (by_out (Inner j) L n.1.0 n.1.1 n.1.2) (subst (λ w. is_cancel j w ≡ true) (sym n.1.3) (itself j)),
)

pub root_so : (L : List Event) (k : StreamNo) → Decides (is_root_closed L k) (NotesClose L k 0)
root_so L k = (λ h. closes_notes L k 0 (has_in 0 (closes (own k L)) h), λ n. in_has 0 (closes (own k L)) (notes_closes L k 0 n))
