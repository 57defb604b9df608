-- What stays as it was.
use Rattle.std.proofs.Common.{◌≡◌, ◌≢◌, ◌⊎◌, inl, inr, ℕ, ◌≤◌, refl, sym, ◌∙◌, ap, subst, arith, length, IfSome}
use Rattle.std.proofs.lemmas.Bool.Decides.{eqb_tells}
use Rattle.std.specs.Prelude.{[], length, IfSome}
use Rattle.device_port.specs.Device.{DeviceTold, Place}
use Rattle.pull_nodes.specs.declared.node.Node.{Node}
use Rattle.pull_nodes.specs.declared.node.Node.TheVariants as node
use Rattle.pull_turns.specs.Around.IsNested.{nesting}
use Rattle.pull_turns.specs.Around.{Around, Enters, Goes, IsNested, IsSpared, IsUntried, Keeps, StaysOpen, AcquiresDevice, gist}
use Rattle.pull_turns.specs.Rest.{AreApart, IsIn, IsAsked, IsFresh, IsHeldBy, IsLive, IsReady, IsScopeOf, IsToRead, IsToWrite, NoPlace}
use Rattle.pull_turns.specs.declared.rest.Rest.{Rest}
use Rattle.pull_turns.specs.declared.rest.Rest.TheVariants.{Nil, Start, Read, Within', Then', Through', Finishing, Faulty, Groups', Take', Into', Zip', Merge'}

pub goes_same : (d : DeviceTold) → Goes d d
goes_same d = record { content = refl; place = refl; at = omega arith; within = λ w. w; opens = λ o. (o, refl) }

pub goes_gist : (d e : DeviceTold) → gist e ≡ gist d → Goes d e
goes_gist d e h =
    let at : e.at ≡ d.at = ap (λ (x : DeviceTold). x.at) h in
    record { content = ap (λ (x : DeviceTold). x.content) h; place = ap (λ (x : DeviceTold). x.place) h; at = omega (arith, at); within = λ w. omega (arith, at, w); opens = λ o. (ap (λ (x : DeviceTold). x.opens) h ∙ o, ap (λ (x : DeviceTold). x.open_faults) h) }

pub goes_on : (d e f : DeviceTold) → Goes d e → Goes e f → Goes d f
goes_on d e f h k = record { content = k.content ∙ h.content; place = k.place ∙ h.place; at = omega (arith, h.at, k.at); within = λ w. k.within (h.within w); opens = λ o. let i = h.opens o in let j = k.opens i.0 in (j.0, j.1 ∙ i.1) }

pub keeps_same : (a : Around) (T C : ℕ → Type 0) → Keeps a T C a
keeps_same a T C = record { told = λ q n. refl; waits = λ q n h. h; holds = λ q k n i h. h; stays = λ k i. record { opened = i.0; within = λ c. (λ w. w, λ w. w) } }

-- fewer scopes are spared where more are closing
spared_less : (a : Around) (C D : ℕ → Type 0) (k : ℕ) → ((c : ℕ) → C c → D c) → IsSpared a D k → IsSpared a C k
spared_less a C D k f i = (i.0, λ c j. i.1 c (f c j))

pub keeps_more : (a b : Around) (T U C D : ℕ → Type 0) → ((q : ℕ) → T q → U q) → ((c : ℕ) → C c → D c) → Keeps a T C b → Keeps a U D b
keeps_more a b T U C D f g h = record {
  told = λ q n. h.told q (λ i. n (f q i));
  waits = λ q n. h.waits q (λ i. n (f q i));
  holds = λ q k n i. h.holds q k (λ j. n (f q j)) (spared_less a C D k g i);
  stays = λ k i. h.stays k (spared_less a C D k g i);
}

-- a scope that was spared is spared on
pub spared_on : (a b : Around) (C : ℕ → Type 0) (k : ℕ) → StaysOpen a k b → IsSpared a C k → IsSpared b C k
spared_on a b C k h i = (h.opened, λ c j w. i.1 c j ((h.within c).0 w))

pub keeps_on : (a b c : Around) (T C : ℕ → Type 0) → Keeps a T C b → Keeps b T C c → Keeps a T C c
keeps_on a b c T C h i = record {
  told = λ q n. i.told q n ∙ h.told q n;
  waits = λ q n w. i.waits q n (h.waits q n w);
  holds = λ q k n j w. i.holds q k n (spared_on a b C k (h.stays k j) j) (h.holds q k n j w);
  stays = λ k j.
      let first = h.stays k j in let second = i.stays k (spared_on a b C k first j) in
      record { opened = second.opened; within = λ d. (λ w. (first.within d).0 ((second.within d).0 w), λ w. (second.within d).1 ((first.within d).1 w)) };
}

-- where nothing closes each open scope is spared
pub all_spared : (a : Around) (k : ℕ) → a.opened k → IsSpared a (λ c. ⊥) k
all_spared a k o = (o, λ c i. absurd i)

pub in_itself : (a : Around) → IsNested a → (k : ℕ) → a.within k k
in_itself a (nesting same further) = same

pub in_further : (a : Around) → IsNested a → (i j k : ℕ) → a.within i j → a.within j k → a.within i k
in_further a (nesting same further) = further

-- where a scope is spared, so are those that it lies in
abbrev pub SparesAround : Around → (ℕ → Type 0) → Type 0
SparesAround a C = (j k : ℕ) → IsSpared a C j → a.within j k → a.opened k → IsSpared a C k

pub spares_around : (a : Around) (C : ℕ → Type 0) → IsNested a → SparesAround a C
spares_around a C nested j k i w o = (o, λ c m v. i.1 c m (in_further a nested j k c w v))

pub spares_all : (a : Around) → SparesAround a (λ c. ⊥)
spares_all a j k i w o = all_spared a k o

-- a place is still held where the scope is spared in which it is used
pub held_kept : (a b : Around) (T C : ℕ → Type 0) (s p : ℕ) → SparesAround a C → Keeps a T C b → (T p → ⊥) → IsSpared a C s → IsHeldBy a s p → IsHeldBy b s p
held_kept a b T C s p around k never spared (j, open', within, held) =
    let i = around s j spared within open' in
    (j, (k.stays j i).opened, ((k.stays s spared).within j).1 within, k.holds p j never i held)

-- in a scope that was opened in s all is held that was held there
pub held_entered : (a b : Around) (s c p : ℕ) → Enters a s c b → IsHeldBy a s p → IsHeldBy b c p
held_entered a b s c p h (j, open', within, held) =
    let i = all_spared a j open' in (j, (h.keeps.stays j i).opened, (h.within j).1 (inr within), h.keeps.holds p j (λ n. n) i held)

pub asked_in : (p : ℕ) (n : Node) → IsAsked p n → IsIn p n
asked_in p node.Nil h = h
asked_in p (node.Emit l) h = h
asked_in p (node.Raise c) h = h
asked_in p (node.Read q) h = absurd h
asked_in p (node.Weak' q _ a) h = elim h [ inl i ↦ inl i | inr i ↦ inr (asked_in p a i) ]
asked_in p (node.Scope' _ a) h = asked_in p a h
asked_in p (node.Append' _ a _ b) h = elim h [ inl i ↦ inl (asked_in p a i) | inr i ↦ inr (asked_in p b i) ]
asked_in p (node.OnFault' _ a _ b) h = elim h [ inl i ↦ inl (asked_in p a i) | inr i ↦ inr (asked_in p b i) ]
asked_in p (node.Through' _ a q) h = asked_in p a h
asked_in p (node.Take' n _ a) h = asked_in p a h
asked_in p (node.Into' q _ a) h = inr (asked_in p a h)
asked_in p (node.Zip' _ a _ b) h = elim h [ inl i ↦ inl (asked_in p a i) | inr i ↦ inr (asked_in p b i) ]
asked_in p (node.Merge' _ a _ b) h = elim h [ inl i ↦ inl (asked_in p a i) | inr i ↦ inr (asked_in p b i) ]

-- a device with which nothing was done but that it was opened
pub record StaysNew (d e : DeviceTold) : Type 0 where
  pub place : e.place ≡ d.place
  pub at : e.at ≡ d.at
  pub read_faults : e.read_faults ≡ d.read_faults
  pub written : e.written ≡ d.written
  pub write_faults : e.write_faults ≡ d.write_faults

new_gist : (d e : DeviceTold) → gist e ≡ gist d → StaysNew d e
new_gist d e h = record {
  place = ap (λ (x : DeviceTold). x.place) h;
  at = ap (λ (x : DeviceTold). x.at) h;
  read_faults = ap (λ (x : DeviceTold). x.read_faults) h;
  written = ap (λ (x : DeviceTold). x.written) h;
  write_faults = ap (λ (x : DeviceTold). x.write_faults) h;
}

still_to_read : (d e : DeviceTold) → StaysNew d e → IsToRead d → IsToRead e
still_to_read d e k h = record { mode = ap (λ (x : Place). x.mode) k.place ∙ h.mode; at = k.at ∙ h.at; faults = k.read_faults ∙ h.faults }

still_to_write : (d e : DeviceTold) → StaysNew d e → IsToWrite d → IsToWrite e
still_to_write d e k h = record {
  mode = ap (λ (x : Place). x.mode) k.place ∙ h.mode;
  written = subst (λ o. IfSome o (λ bytes. bytes ≡ [])) (sym k.written) h.written;
  faults = k.write_faults ∙ h.faults;
}

still_untried : (d e : DeviceTold) → gist e ≡ gist d → IsUntried d → IsUntried e
still_untried d e k h = record { opens = ap (λ (x : DeviceTold). x.opens) k ∙ h.opens; open_faults = ap (λ (x : DeviceTold). x.open_faults) k ∙ h.open_faults }

-- a node may still be run where its places are as they were, or are held by now
module _ (a b : Around) (s t : ℕ) where
  pub fresh_on : (P Q : ℕ → Type 0) (n : Node)
      → ((p : ℕ) → IsIn p n → StaysNew (a.told p) (b.told p))
      → ((p : ℕ) → IsAsked p n → a.waits p → b.waits p)
      → ((p : ℕ) → IsAsked p n → IsUntried (a.told p) → IsUntried (b.told p))
      → ((p : ℕ) → IsIn p n → IsHeldBy a s p → IsHeldBy b t p)
      → ((p : ℕ) → P p → Q p ⊎ IsHeldBy b t p)
      → IsFresh a P s n → IsFresh b Q t n
  fresh_on P Q node.Nil d w u o f h = tt
  fresh_on P Q (node.Emit l) d w u o f h = tt
  fresh_on P Q (node.Raise c) d w u o f h = tt
  fresh_on P Q (node.Read q) d w u o f h =
      (still_to_read (a.told q) (b.told q) (d q refl) h.0, elim h.1 [ inl i ↦ f q i | inr i ↦ inr (o q refl i) ])
  fresh_on P Q (node.Weak' q _ n) d w u o f h = (
    w q (inl refl) h.0,
    h.1,
    fresh_on (λ r. (r ≡ q) ⊎ P r) (λ r. (r ≡ q) ⊎ Q r) n (λ p i. d p (inr i)) (λ p i. w p (inr i)) (λ p i. u p (inr i)) (λ p i. o p (inr i))
        (λ p. elim [ inl i ↦ inl (inl i) | inr i ↦ elim (f p i) [ inl j ↦ inl (inr j) | inr j ↦ inr j ] ]) h.2,
    u q (inl refl) h.3,
  )
  fresh_on P Q (node.Scope' _ n) d w u o f h = fresh_on P Q n d w u o f h
  fresh_on P Q (node.Append' _ n _ m) d w u o f h =
      (h.0, (fresh_on P Q n (λ p i. d p (inl i)) (λ p i. w p (inl i)) (λ p i. u p (inl i)) (λ p i. o p (inl i)) f h.1.0, fresh_on P Q m (λ p i. d p (inr i)) (λ p i. w p (inr i)) (λ p i. u p (inr i)) (λ p i. o p (inr i)) f h.1.1))
  fresh_on P Q (node.OnFault' _ n _ m) d w u o f h =
      (h.0, (fresh_on P Q n (λ p i. d p (inl i)) (λ p i. w p (inl i)) (λ p i. u p (inl i)) (λ p i. o p (inl i)) f h.1.0, fresh_on P Q m (λ p i. d p (inr i)) (λ p i. w p (inr i)) (λ p i. u p (inr i)) (λ p i. o p (inr i)) f h.1.1))
  fresh_on P Q (node.Through' _ n q) d w u o f h = fresh_on P Q n d w u o f h
  fresh_on P Q (node.Take' n _ m) d w u o f h = fresh_on P Q m d w u o f h
  fresh_on P Q (node.Zip' _ n _ m) d w u o f h =
      (h.0, (fresh_on P Q n (λ p i. d p (inl i)) (λ p i. w p (inl i)) (λ p i. u p (inl i)) (λ p i. o p (inl i)) f h.1.0, fresh_on P Q m (λ p i. d p (inr i)) (λ p i. w p (inr i)) (λ p i. u p (inr i)) (λ p i. o p (inr i)) f h.1.1))
  fresh_on P Q (node.Merge' _ n _ m) d w u o f h =
      (h.0, (fresh_on P Q n (λ p i. d p (inl i)) (λ p i. w p (inl i)) (λ p i. u p (inl i)) (λ p i. o p (inl i)) f h.1.0, fresh_on P Q m (λ p i. d p (inr i)) (λ p i. w p (inr i)) (λ p i. u p (inr i)) (λ p i. o p (inr i)) f h.1.1))
  fresh_on P Q (node.Into' q _ n) d w u o f h = (
    still_to_write (a.told q) (b.told q) (d q (inl refl)) h.0,
    elim h.1 [ inl i ↦ f q i | inr i ↦ inr (o q (inl refl) i) ],
    h.2,
    fresh_on P Q n (λ p i. d p (inr i)) w u (λ p i. o p (inr i)) f h.3,
  )

  fresh_by : (T C : ℕ → Type 0) (n : Node) → Keeps a T C b → ((p : ℕ) → IsIn p n → T p → ⊥) → ((p : ℕ) → IsIn p n → IsHeldBy a s p → IsHeldBy b t p) → IsFresh a NoPlace s n → IsFresh b NoPlace t n
  fresh_by T C n k never o h =
      fresh_on NoPlace NoPlace n (λ p i. new_gist (a.told p) (b.told p) (k.told p (never p i))) (λ p i. k.waits p (never p (asked_in p n i))) (λ p i. still_untried (a.told p) (b.told p) (k.told p (never p (asked_in p n i)))) o (λ p i. absurd i) h

-- in a scope that is spared
pub fresh_kept : (a b : Around) (T C : ℕ → Type 0) (s : ℕ) (n : Node) → SparesAround a C → Keeps a T C b → ((p : ℕ) → IsIn p n → T p → ⊥) → IsSpared a C s → IsFresh a NoPlace s n → IsFresh b NoPlace s n
fresh_kept a b T C s n around k never spared h = fresh_by a b s s T C n k never (λ p i. held_kept a b T C s p around k (never p i) spared) h

-- in a scope that was opened for it
pub fresh_entered : (a b : Around) (s c : ℕ) (n : Node) → Enters a s c b → IsFresh a NoPlace s n → IsFresh b NoPlace c n
fresh_entered a b s c n k h = fresh_by a b s c (λ q. ⊥) (λ d. ⊥) n k.keeps (λ p i j. j) (λ p i. held_entered a b s c p k) h

-- a scope of what is left is open
pub scope_open : {F : Type 0} (a : Around) (s c : ℕ) (r : Rest F) → IsReady a s r → IsScopeOf c r → a.opened c
scope_open a s c Nil h i = absurd i
scope_open a s c (Start n) h i = absurd i
scope_open a s c (Read p from) h i = absurd i
scope_open a s c (Within' d _ r) h i = elim i [ inl e ↦ subst (λ k. a.opened k) (sym e) h.2 | inr j ↦ scope_open a d c r h.3 j ]
scope_open a s c (Then' w _ r b) h i = elim i [ inl j ↦ scope_open a s c r h.1 j | inr j ↦ absurd j ]
scope_open a s c (Through' _ r q) h i = scope_open a s c r h.0 i
scope_open a s c (Finishing q) h i = absurd i
scope_open a s c (Faulty d) h i = absurd i
scope_open a s c (Groups' n f _ r) h i = scope_open a s c r h.2 i
scope_open a s c (Take' n _ r) h i = scope_open a s c r (h.0 i.0) i.1
scope_open a s c (Into' p v _ r) h i = scope_open a s c r h.3 i
scope_open a s c (Zip' z _ x _ y) h i = elim i [ inl j ↦ scope_open a s c x h.1 j | inr j ↦ scope_open a s c y h.2 j ]
scope_open a s c (Merge' m _ x _ y) h i = elim i [ inl j ↦ scope_open a s c x h.1 j | inr j ↦ scope_open a s c y h.2 j ]

-- it lies within that in which what is left runs, and not the other way round
pub scope_inside : {F : Type 0} (a : Around) (nested : IsNested a) (s c : ℕ) (r : Rest F) → IsReady a s r → IsScopeOf c r → a.within c s × (a.within s c → ⊥)
scope_inside a nested s c Nil h i = absurd i
scope_inside a nested s c (Start n) h i = absurd i
scope_inside a nested s c (Read p from) h i = absurd i
scope_inside a nested s c (Within' d _ r) h i = elim i [
  | inl e ↦ subst (λ k. a.within k s × (a.within s k → ⊥)) (sym e) (h.0, h.1)
  | inr j ↦ let k = scope_inside a nested d c r h.3 j in (in_further a nested c d s k.0 h.0, λ w. k.1 (in_further a nested d s c h.0 w))
]
scope_inside a nested s c (Then' w _ r b) h i = elim i [ inl j ↦ scope_inside a nested s c r h.1 j | inr j ↦ absurd j ]
scope_inside a nested s c (Through' _ r q) h i = scope_inside a nested s c r h.0 i
scope_inside a nested s c (Finishing q) h i = absurd i
scope_inside a nested s c (Faulty d) h i = absurd i
scope_inside a nested s c (Groups' n f _ r) h i = scope_inside a nested s c r h.2 i
scope_inside a nested s c (Take' n _ r) h i = scope_inside a nested s c r (h.0 i.0) i.1
scope_inside a nested s c (Into' p v _ r) h i = scope_inside a nested s c r h.3 i
scope_inside a nested s c (Zip' z _ x _ y) h i = elim i [ inl j ↦ scope_inside a nested s c x h.1 j | inr j ↦ scope_inside a nested s c y h.2 j ]
scope_inside a nested s c (Merge' m _ x _ y) h i = elim i [ inl j ↦ scope_inside a nested s c x h.1 j | inr j ↦ scope_inside a nested s c y h.2 j ]

-- the scope in which it runs is spared where its own close
pub own_spared : {F : Type 0} (a : Around) (nested : IsNested a) (s : ℕ) (r : Rest F) → a.opened s → IsReady a s r → IsSpared a (λ c. IsScopeOf c r) s
own_spared a nested s r o h = (o, λ c i w. (scope_inside a nested s c r h i).1 w)

-- a number of each device is as it was
pub field_same : (f : DeviceTold → ℕ) (b a : ℕ → DeviceTold) (p : ℕ) → f (b p) ≡ f (a p) → ((q : ℕ) → q ≢ p → f (b q) ≡ f (a q)) → (q : ℕ) → f (b q) ≡ f (a q)
field_same f b a p e o q = elim (eqb_tells q p) [ inl m ↦ subst (λ r. f (b r) ≡ f (a r)) (sym m.1) e | inr m ↦ o q m.1 ]

module _ (a b : Around) (s p : ℕ) (nested : IsNested a) (open' : a.opened s) (h : AcquiresDevice a s p b) where
  new_p : StaysNew (a.told p) (b.told p)
  new_p = record {
    place = ap (λ (x : DeviceTold). x.place) h.told;
    at = ap (λ (x : DeviceTold). x.at) h.told;
    read_faults = ap (λ (x : DeviceTold). x.read_faults) h.told;
    written = ap (λ (x : DeviceTold). x.written) h.told;
    write_faults = ap (λ (x : DeviceTold). x.write_faults) h.told;
  }

  pub fresh_opened : (n : Node) → (IsAsked p n → ⊥) → IsFresh a (λ q. (q ≡ p) ⊎ NoPlace q) s n → IsFresh b NoPlace s n
  fresh_opened n never fresh =
      let stays : StaysOpen a s b = h.keeps.stays s (all_spared a s open') in
      fresh_on a b s s (λ q. (q ≡ p) ⊎ NoPlace q) NoPlace n
      (λ q i. elim (eqb_tells q p) [ inl m ↦ subst (λ r. StaysNew (a.told r) (b.told r)) (sym m.1) new_p | inr m ↦ new_gist (a.told q) (b.told q) (h.keeps.told q m.1) ])
      (λ q i. h.keeps.waits q (λ e. never (subst (λ r. IsAsked r n) e i)))
      (λ q i. still_untried (a.told q) (b.told q) (h.keeps.told q (λ e. never (subst (λ r. IsAsked r n) e i))))
      (λ q i held. let j = all_spared a held.0 held.1 in (held.0, (h.keeps.stays held.0 j).opened, (stays.within held.0).1 held.2, h.holds q held.0 held.3))
      (λ q. elim [ inl e ↦ inr (s, stays.opened, (stays.within s).1 (in_itself a nested s), subst (λ r. b.holds r s) (sym e) h.held) | inr i ↦ absurd i ])
      fresh

-- two parts that are apart stay so where their scopes are spared
apart_kept : {F : Type 0} (a b : Around) (T C : ℕ → Type 0) (k : Keeps a T C b) (x y : Rest F) → ((c : ℕ) → IsScopeOf c x → IsSpared a C c) → ((c : ℕ) → IsScopeOf c y → IsSpared a C c) → AreApart a x y → AreApart b x y
apart_kept a b T C k x y first second h = record {
  places = h.places;
  scopes = λ c d i j. let old = h.scopes c d i j in (λ w. old.0 (((k.stays c (first c i)).within d).0 w), λ w. old.1 (((k.stays d (second d j)).within c).0 w));
}

-- what is left may be run on where its places weren't touched, and neither the scope in which it runs nor its own lie in one that closes
pub ready_kept : {F : Type 0} (a b : Around) (T C : ℕ → Type 0) (around : SparesAround a C) (k : Keeps a T C b) (s : ℕ) (r : Rest F)
    → ((p : ℕ) → IsLive p r → T p → ⊥) → IsSpared a C s → ((c : ℕ) → IsScopeOf c r → IsSpared a C c) → IsReady a s r → IsReady b s r
ready_kept a b T C around k s Nil never spared own h = tt
ready_kept a b T C around k s (Start n) never spared own h = fresh_kept a b T C s n around k never spared h
ready_kept a b T C around k s (Read p from) never spared own h =
    let same = k.told p (never p refl) in (
      ap (λ (d : DeviceTold). d.at) same ∙ h.0,
      ap (λ (d : DeviceTold). d.read_faults) same ∙ h.1,
      h.2,
      subst (λ o. IfSome o (λ c. from ≤ length c)) (sym (ap (λ (d : DeviceTold). d.content) same)) h.3,
      held_kept a b T C s p around k (never p refl) spared h.4,
      ap (λ (d : DeviceTold). d.place.mode) same ∙ h.5,
    )
ready_kept a b T C around k s (Within' c _ r) never spared own h =
    let mine = own c (inl refl) in let stays = k.stays c mine in (
      (stays.within s).1 h.0,
      λ w. h.1 (((k.stays s spared).within c).0 w),
      stays.opened,
      ready_kept a b T C around k c r never mine (λ d i. own d (inr i)) h.3,
    )
ready_kept a b T C around k s (Then' w _ r m) never spared own h = (
  h.0,
  ready_kept a b T C around k s r (λ p i. never p (inl i)) spared (λ d i. own d (inl i)) h.1,
  fresh_kept a b T C s m.value around k (λ p i. never p (inr i)) spared h.2,
)
ready_kept a b T C around k s (Through' _ r q) never spared own h = (ready_kept a b T C around k s r never spared own h.0, h.1)
ready_kept a b T C around k s (Finishing q) never spared own h = tt
ready_kept a b T C around k s (Faulty d) never spared own h = tt
ready_kept a b T C around k s (Groups' n f _ r) never spared own h = (h.0, h.1, ready_kept a b T C around k s r never spared own h.2, h.3)
ready_kept a b T C around k s (Take' n _ r) never spared own h = (λ some. ready_kept a b T C around k s r (λ p i. never p (some, i)) spared (λ c i. own c (some, i)) (h.0 some), h.1)
ready_kept a b T C around k s (Into' p v _ r) never spared own h =
    let same = k.told p (never p (inl refl)) in (
      record { mode = ap (λ (d : DeviceTold). d.place.mode) same ∙ h.0.mode; written = ap (λ (d : DeviceTold). d.written) same ∙ h.0.written; faults = ap (λ (d : DeviceTold). d.write_faults) same ∙ h.0.faults },
      held_kept a b T C s p around k (never p (inl refl)) spared h.1,
      h.2,
      ready_kept a b T C around k s r (λ q i. never q (inr i)) spared own h.3,
      h.4,
    )
ready_kept a b T C around k s (Zip' z _ x _ y) never spared own h = (
  apart_kept a b T C k x y (λ c i. own c (inl i)) (λ c i. own c (inr i)) h.0,
  ready_kept a b T C around k s x (λ p i. never p (inl i)) spared (λ c i. own c (inl i)) h.1,
  ready_kept a b T C around k s y (λ p i. never p (inr i)) spared (λ c i. own c (inr i)) h.2,
  h.3,
  h.4,
)
ready_kept a b T C around k s (Merge' m _ x _ y) never spared own h = (
  apart_kept a b T C k x y (λ c i. own c (inl i)) (λ c i. own c (inr i)) h.0,
  ready_kept a b T C around k s x (λ p i. never p (inl i)) spared (λ c i. own c (inl i)) h.1,
  ready_kept a b T C around k s y (λ p i. never p (inr i)) spared (λ c i. own c (inr i)) h.2,
  h.3,
  h.4,
  h.5,
)
