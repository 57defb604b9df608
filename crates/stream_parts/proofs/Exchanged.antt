-- Devices that were made and came back, one exchange after the other.
use Rattle.std.proofs.Common.{◌≡◌, ◌≢◌, ℕ, Bool, true, false, ◌&&◌, nat_eq, List, [], ◌∷◌, ◌++◌, ◌⊎◌, inl, inr, map, length, Option, Some, None, refl, sym, ◌∙◌, ap, subst, ⊎_elim, arith, append_assoc, append-nil, length-append, ne_eqb}
use Rattle.std.proofs.lemmas.Bool.{false≢true}
use Rattle.std.proofs.lemmas.List.{map-append}
use Rattle.std.proofs.lemmas.List.Sorted.{IsPermutation-append, IsPermutation-append_comm, IsPermutation-append_right, IsPermutation-map, IsPermutation-refl, IsPermutation-sym, IsPermutation-trans}
use Rattle.std.proofs.lemmas.Map.Keys.{IsDistinct-IsPermutation}
use Rattle.std.proofs.lemmas.Slice.Eq.{bytes_eq-Decides}
use Rattle.std.specs.Cmp.{nat_eq_equiv}
use Rattle.std.specs.List.{IsDistinct}
use Rattle.std.specs.List.Sorted.{IsPermutation}
use Rattle.std.specs.Str.{bytes_eq}
use Rattle.chunk_core.specs.Lists.{IsAmong}
use Rattle.chunk_core.specs.Lists.IsAmong.{here, there}
use Rattle.chunk_core.proofs.Bools.{and_true, both, itself}
use Rattle.chunk_core.proofs.Each.{among_each, among_permuted, each_among, each_append, each_last, each_left, each_permuted, each_right}
use Rattle.chunk_core.proofs.Filters.{among_right}
use Rattle.chunk_core.proofs.Members.{among_cons, among_left, among_nil}
use Rattle.device_port.specs.declared.device.Mode.{Mode}
use Rattle.device_port.specs.declared.device.Mode.TheVariants as mode
use Rattle.device_port.specs.Device.{Place, DeviceTold, is_write}
use Rattle.device_port.specs.Depot.{DepotTold, Files, IsUnknown, KeepsFilesBut, KeepsOtherFiles, KeepsWritten, MayReturn, device_numbers}
use Rattle.stream_parts.specs.Retire.{Exchanges, HaveOwnOutputs, IsWrittenBy, MayReturnAll, Returns, write_alike}
use Rattle.res_ledger.proofs.Mapped.{among_map, map_among}

-- A list of which no two are alike, in two parts.
module _ {K : Type 0} (e : K → K → Bool) where
  pub distinct_parts : (xs ys : List K) → IsDistinct e (xs ++ ys) → IsDistinct e xs × IsDistinct e ys × ((x y : K) → IsAmong x xs → IsAmong y ys → e x y ≡ false)
  unfolding IsDistinct
  distinct_parts [] ys h = (tt, h, λ x y m n. absurd (among_nil m))
  distinct_parts (x ∷ xs) ys h =
      let rest = distinct_parts xs ys h.1 in (
        (each_left (λ z. e x z ≡ false) xs ys h.0, rest.0),
        rest.1,
        λ u y m n. ⊎_elim (λ s. subst (λ z. e z y ≡ false) (sym s) (among_each (λ z. e x z ≡ false) y ys (each_right (λ z. e x z ≡ false) xs ys h.0) n)) (λ i. rest.2 u y i n) (among_cons m),
      )

  pub distinct_both : (xs ys : List K) → IsDistinct e xs → IsDistinct e ys → ((x y : K) → IsAmong x xs → IsAmong y ys → e x y ≡ false) → IsDistinct e (xs ++ ys)
  unfolding IsDistinct
  distinct_both [] ys h k apart = k
  distinct_both (x ∷ xs) ys h k apart = (each_append (λ z. e x z ≡ false) xs ys h.0 (each_among (λ z. e x z ≡ false) ys (λ y n. apart x y (here xs) n)), distinct_both xs ys h.1 k (λ u y m n. apart u y (there x m) n))

-- Devices for writing at one path.

both_from : (a b : Bool) → (a ≡ true → b ≡ true) → (b ≡ true → a ≡ true) → a ≡ b
both_from true b f g = sym (f refl)
both_from false true f g = g refl
both_from false false f g = refl

pub alike : (d e : DeviceTold) → d.place.mode ≡ mode.Write → e.place.mode ≡ mode.Write → d.place.path ≡ e.place.path → write_alike d e ≡ true
alike d e p q same = and_true (is_write d.place.mode) (is_write e.place.mode && bytes_eq d.place.path e.place.path) (ap is_write p) (and_true (is_write e.place.mode) (bytes_eq d.place.path e.place.path) (ap is_write q) ((bytes_eq-Decides d.place.path e.place.path).1 same))

pub is_writing : (m : Mode) → is_write m ≡ true → m ≡ mode.Write
is_writing mode.Write h = refl
is_writing mode.Read h = absurd (false≢true h)

pub alike_so : (d e : DeviceTold) → write_alike d e ≡ true → (d.place.mode ≡ mode.Write) × (e.place.mode ≡ mode.Write) × (d.place.path ≡ e.place.path)
alike_so d e h =
    let a = both (is_write d.place.mode) (is_write e.place.mode && bytes_eq d.place.path e.place.path) h in
    let b = both (is_write e.place.mode) (bytes_eq d.place.path e.place.path) a.1 in
    (is_writing d.place.mode a.0, is_writing e.place.mode b.0, (bytes_eq-Decides d.place.path e.place.path).0 b.1)

alike_flips : (d e : DeviceTold) → write_alike d e ≡ write_alike e d
alike_flips d e = both_from (write_alike d e) (write_alike e d) (λ h. let a = alike_so d e h in alike e d a.1 a.0 (sym a.2)) (λ h. let a = alike_so e d h in alike d e a.1 a.0 (sym a.2))

pub outputs_permuted : (xs ys : List DeviceTold) → IsPermutation xs ys → HaveOwnOutputs xs → HaveOwnOutputs ys
outputs_permuted = IsDistinct-IsPermutation write_alike alike_flips

-- Files that change at some paths.

pub files_same : (P : List ℕ → Type 0) (f : Option Files) → KeepsFilesBut P f f
files_same P None = tt
files_same P (Some f) = λ path. inr refl

-- files stay as they are, but where more may change
pub keeps_more : (P Q : List ℕ → Type 0) → ((path : List ℕ) → P path → Q path) → (f g : Option Files) → KeepsFilesBut P f g → KeepsFilesBut Q f g
keeps_more P Q h None None k = tt
keeps_more P Q h (Some f) (Some g) k = λ path. ⊎_elim (λ p. inl (h path p)) (λ e. inr e) (k path)
keeps_more P Q h None (Some g) k = absurd k
keeps_more P Q h (Some f) None k = absurd k

-- first at the paths P, and then at the paths Q
files_then : (P Q : List ℕ → Type 0) (f g h : Option Files) → KeepsFilesBut P f g → KeepsFilesBut Q g h → KeepsFilesBut (λ path. P path ⊎ Q path) f h
files_then P Q None None None k l = tt
files_then P Q (Some f) (Some g) (Some h) k l = λ path. ⊎_elim (λ n. inl (inr n)) (λ e. ⊎_elim (λ n. inl (inl n)) (λ d. inr (e ∙ d)) (k path)) (l path)
files_then P Q None (Some g) h k l = absurd k
files_then P Q (Some f) None h k l = absurd k
files_then P Q None None (Some h) k l = absurd l
files_then P Q (Some f) (Some g) None k l = absurd l

-- what was written stays, where nothing else is written there
stays_written : (P : List ℕ → Type 0) (f g : Option Files) (d : DeviceTold) → KeepsFilesBut P f g → (d.place.mode ≡ mode.Write → ¬ (P d.place.path)) → KeepsWritten f d → KeepsWritten g d
stays_written P None None d k n h = λ w o. tt
stays_written P (Some f) (Some g) d k n h = λ w o. ⊎_elim (λ p. absurd (n w p)) (λ e. e ∙ h w o) (k d.place.path)
stays_written P None (Some g) d k n h = absurd k
stays_written P (Some f) None d k n h = absurd k

-- Exchanges.

written_more : (xs ys zs : List DeviceTold) → ((d : DeviceTold) → IsAmong d xs → IsAmong d zs) → ((d : DeviceTold) → IsAmong d ys → IsAmong d zs) → (path : List ℕ) → IsWrittenBy xs path ⊎ IsWrittenBy ys path → IsWrittenBy zs path
written_more xs ys zs f g path = ⊎_elim (λ w. (w.0, f w.0 w.1, w.2, w.3, w.4)) (λ w. (w.0, g w.0 w.1, w.2, w.3, w.4))

pub exchanges_none : (now : DepotTold) → Exchanges now now [] []
exchanges_none now = record { made = sym (append-nil now.made); retired = sym (append-nil now.retired); files = files_same (IsWrittenBy []) now.files; stored = λ own. tt }

-- one exchange behind another
pub exchanges_then : (old mid new : DepotTold) (ps qs : List Place) (xs ys : List DeviceTold) → Exchanges old mid ps xs → Exchanges mid new qs ys → Exchanges old new (ps ++ qs) (xs ++ ys)
exchanges_then old mid new ps qs xs ys a b = record {
  made = b.made ∙ (ap (λ l. l ++ qs) a.made ∙ append_assoc old.made ps qs);
  retired = b.retired ∙ (ap (λ l. l ++ ys) a.retired ∙ append_assoc old.retired xs ys);
  files = keeps_more (λ path. IsWrittenBy xs path ⊎ IsWrittenBy ys path) (IsWrittenBy (xs ++ ys)) (written_more xs ys (xs ++ ys) (λ d m. among_left ys m) (λ d m. among_right d xs ys m)) old.files new.files
      (files_then (IsWrittenBy xs) (IsWrittenBy ys) old.files mid.files new.files a.files b.files);
  stored = λ own.
      let parts = distinct_parts write_alike xs ys own in
      each_append (KeepsWritten new.files) xs ys
      (each_among (KeepsWritten new.files) xs (λ d m.
      stays_written (IsWrittenBy ys) mid.files new.files d b.files (λ w by. false≢true (sym (parts.2 d by.0 m by.1) ∙ alike d by.0 w by.2 by.4)) (among_each (KeepsWritten mid.files) d xs (a.stored parts.0) m)))
      (b.stored parts.1);
}

-- one device came back
pub exchange_back : (now new : DepotTold) (d : DeviceTold) → new.retired ≡ now.retired ++ d ∷ [] → new.made ≡ now.made → KeepsOtherFiles now new d → KeepsWritten new.files d → Exchanges now new [] (d ∷ [])
exchange_back now new d retired made files written = record {
  made = made ∙ sym (append-nil now.made);
  retired = retired;
  files = keeps_more (λ path. (d.place.mode ≡ mode.Write) × (d.opens ≡ 1) × (path ≡ d.place.path)) (IsWrittenBy (d ∷ [])) (λ path w. (d, here [], w.0, w.1, w.2)) now.files new.files files;
  stored = λ own. (written, tt);
}

-- Devices that may go back.

-- devices may come back in any order
pub may_permuted : (depot : DepotTold) (xs ys : List DeviceTold) → IsPermutation xs ys → MayReturnAll depot xs → MayReturnAll depot ys
may_permuted depot xs ys p h = record {
  each = each_permuted (MayReturn depot) xs ys p h.each;
  apart = IsDistinct-IsPermutation nat_eq nat_eq_equiv.symm (device_numbers xs) (device_numbers ys) (IsPermutation-map (λ (x : DeviceTold). x.number) xs ys p) h.apart;
}

numbers_of : (xs ys : List DeviceTold) → device_numbers (xs ++ ys) ≡ device_numbers xs ++ device_numbers ys
numbers_of xs ys = map-append (λ (x : DeviceTold). x.number) xs ys

-- both parts of a list may come back, and no device of the one has the number of one of the other
pub may_parts : (depot : DepotTold) (xs ys : List DeviceTold) → MayReturnAll depot (xs ++ ys) → MayReturnAll depot xs × MayReturnAll depot ys × ((x y : DeviceTold) → IsAmong x xs → IsAmong y ys → x.number ≢ y.number)
may_parts depot xs ys h =
    let parts = distinct_parts nat_eq (device_numbers xs) (device_numbers ys) (subst (λ ns. IsDistinct nat_eq ns) (numbers_of xs ys) h.apart) in (
      record { each = each_left (MayReturn depot) xs ys h.each; apart = parts.0 },
      record { each = each_right (MayReturn depot) xs ys h.each; apart = parts.1 },
      λ x y m n e. false≢true (sym (parts.2 x.number y.number (map_among (λ (d : DeviceTold). d.number) x xs m) (map_among (λ (d : DeviceTold). d.number) y ys n)) ∙ ap (λ k. nat_eq x.number k) (sym e) ∙ itself x.number),
    )

pub may_both : (depot : DepotTold) (xs ys : List DeviceTold) → MayReturnAll depot xs → MayReturnAll depot ys → ((x y : DeviceTold) → IsAmong x xs → IsAmong y ys → x.number ≢ y.number) → MayReturnAll depot (xs ++ ys)
may_both depot xs ys h k apart = record {
  each = each_append (MayReturn depot) xs ys h.each k.each;
  apart = subst (λ ns. IsDistinct nat_eq ns) (sym (numbers_of xs ys))
      (distinct_both nat_eq (device_numbers xs) (device_numbers ys) h.apart k.apart (λ a b m n.
      let x = among_map (λ (d : DeviceTold). d.number) a xs m in let y = among_map (λ (d : DeviceTold). d.number) b ys n in ne_eqb a b (λ e. apart x.0 y.0 x.1 y.1 (x.2 ∙ (e ∙ sym y.2)))));
}

-- behind an exchange those still may that didn't come back in it
pub may_after : (old new : DepotTold) (ps : List Place) (xs ys : List DeviceTold) → Exchanges old new ps xs → MayReturnAll old ys → ((x y : DeviceTold) → IsAmong x xs → IsAmong y ys → x.number ≢ y.number) → MayReturnAll new ys
may_after old new ps xs ys e h apart = record {
  each = each_among (MayReturn new) ys (λ y m.
      let may = among_each (MayReturn old) y ys h.each m in
      let more = ap (λ (l : List Place). length l) e.made in
      record {
        made = let a = may.made in let b = length-append old.made ps in omega (arith, a, b, more);
        closed = may.closed;
        unknown = subst (λ rs. IsUnknown y.number rs) (sym e.retired) (each_append (λ (x : DeviceTold). x.number ≢ y.number) old.retired xs may.unknown (each_among (λ (x : DeviceTold). x.number ≢ y.number) xs (λ x i. apart x y i m)));
      });
  apart = h.apart;
}

-- Devices that go back one after the other.

-- since the start the devices ds came back but for these, which still may
pub record Returning (old now : DepotTold) (ds left : List DeviceTold) : Type 0 where
  pub back : List DeviceTold
  pub each : IsPermutation ds (left ++ back)
  pub exchanges : Exchanges old now [] back
  pub may : MayReturnAll now left

pub returning_start : (old : DepotTold) (ds : List DeviceTold) → MayReturnAll old ds → Returning old old ds ds
returning_start old ds h = record { back = []; each = subst (λ xs. IsPermutation ds xs) (sym (append-nil ds)) (IsPermutation-refl ds); exchanges = exchanges_none old; may = h }

-- the last of those that are left goes back
pub returning_more : (old now new : DepotTold) (ds left : List DeviceTold) (d : DeviceTold) → Returning old now ds (left ++ d ∷ []) → Exchanges now new [] (d ∷ []) → Returning old new ds left
returning_more old now new ds left d r e =
    let parts = may_parts now left (d ∷ []) r.may in
    record {
      back = r.back ++ d ∷ [];
      each = IsPermutation-trans ds ((left ++ d ∷ []) ++ r.back) (left ++ (r.back ++ d ∷ [])) r.each
          (subst (λ xs. IsPermutation xs (left ++ (r.back ++ d ∷ []))) (sym (append_assoc left (d ∷ []) r.back)) (IsPermutation-append_right left (d ∷ [] ++ r.back) (r.back ++ d ∷ []) (IsPermutation-append_comm (d ∷ []) r.back)));
      exchanges = exchanges_then old now new [] [] r.back (d ∷ []) r.exchanges e;
      may = may_after now new [] (d ∷ []) left e parts.0 (λ x y m n same. parts.2 y x n m (sym same));
    }

pub returned : (old new : DepotTold) (ds : List DeviceTold) → Returning old new ds [] → Returns old new ds
returned old new ds r = record { back = r.back; each = r.each; exchanges = r.exchanges }

pub may_last : (now : DepotTold) (left : List DeviceTold) (d : DeviceTold) → MayReturnAll now (left ++ d ∷ []) → MayReturn now d
may_last now left d h = each_last (MayReturn now) left d h.each

-- one list of devices went back, and then another
pub may_second : (old mid : DepotTold) (xs ys : List DeviceTold) → Returns old mid xs → MayReturnAll old (xs ++ ys) → MayReturnAll mid ys
may_second old mid xs ys r h =
    let parts = may_parts old xs ys h in
    may_after old mid [] r.back ys r.exchanges parts.1 (λ x y m n. parts.2 x y (among_permuted r.back xs (IsPermutation-sym xs r.back r.each) x m) n)

pub returns_both : (old mid new : DepotTold) (xs ys : List DeviceTold) → Returns old mid xs → Returns mid new ys → Returns old new (xs ++ ys)
returns_both old mid new xs ys r t = record {
  back = r.back ++ t.back;
  each = IsPermutation-append xs r.back ys t.back r.each t.each;
  exchanges = exchanges_then old mid new [] [] r.back t.back r.exchanges t.exchanges;
}

pub last_told : {V : Type 0} (told : V → DeviceTold) (all left : List V) (d : V) → all ≡ left ++ d ∷ [] → map told all ≡ map told left ++ told d ∷ []
last_told told all left d e = ap (λ xs. map told xs) e ∙ map-append told left (d ∷ [])

pub none_left : {A : Type 0} (xs : List A) → length xs ≡ 0 → xs ≡ []
none_left [] e = refl
none_left (x ∷ xs) e = absurd (omega arith)
