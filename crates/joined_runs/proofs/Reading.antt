-- What a device that was read tells of the reading.
use Rattle.std.proofs.Common.{◌≡◌, ◌≢◌, ◌⊎◌, ℕ, zero, suc, ◌<◌, ◌≤◌, ◌^◌, List, ◌++◌, inl, inr, map, take, drop, length, replicate, Option, Some, None, IfSome, refl, sym, ◌∙◌, ap, subst, ⊎_elim, arith}
use Rattle.std.proofs.lemmas.Option.{IfSome_then}
use Rattle.std.proofs.lemmas.List.{length-replicate, take_all, take-append-drop, take-take}
use Rattle.chunk_core.specs.Elements.{Element, Byte}
use Rattle.chunk_core.specs.Outcomes.{End, Done, Fault, Cut, Outcomes}
use Rattle.chunk_core.specs.declared.code.Code.{Code}
use Rattle.chunk_core.specs.declared.code.Code.TheVariants as code
use Rattle.chunk_core.specs.declared.code.How.{How}
use Rattle.chunk_core.specs.declared.code.How.TheVariants as how
use Rattle.device_port.specs.Device.{DeviceTold, faults_of}
use Rattle.pull_nodes.specs.Plain.{IsFront}
use Rattle.pull_nodes.specs.Runs.{FirstBytes, Reads, ReadsContent, ReadsWhole, ReadsWholeBy, StopsReading}
use Rattle.pull_nodes.proofs.Fronts.{front_map, front_same}
use Rattle.run_rules.specs.Ends.{act_count}
use Rattle.run_rules.specs.Outputs.{IsReported}

-- A fault shows on its device.

pub fault_is : (a b : Code) → Fault a ≡ Fault b → b ≡ a
fault_is a b e = cc

pub fault_cut : (c : Code) → Fault c ≢ Cut
fault_cut c e = cc

pub fault_done : (c : Code) → Fault c ≢ Done
fault_done c e = cc

-- where a fault names an act of a device, this is so of the act's count
abbrev pub IsCountedBy : ((DeviceTold → ℕ) → Type 0) → Code → Type 0
IsCountedBy X c = IfSome (act_count c) X

pub counted_as : (X : (DeviceTold → ℕ) → Type 0) (c k : Code) → k ≡ c → IsCountedBy X k → IsCountedBy X c
counted_as X c k e h = subst (λ x. IsCountedBy X x) e h

pub counted_more : (X Y : (DeviceTold → ℕ) → Type 0) → ((n : DeviceTold → ℕ) → X n → Y n) → (c : Code) → IsCountedBy X c → IsCountedBy Y c
counted_more X Y f c h = IfSome_then (act_count c) h f

-- the device counted the act
abbrev pub IsCounted : DeviceTold → Code → Type 0
IsCounted d c = IsCountedBy (λ n. 0 < n d) c

pub stops_shows : (d : DeviceTold) (c : Code) → StopsReading d (Fault c) → IsCounted d c
stops_shows d code.Endless h = tt
stops_shows d code.Read h = omega (arith, h)
stops_shows d c h = absurd h

-- a fault that is reported is the run's
pub fault_run : (R : Outcomes) (ys : List Element) (e : End) (h : How) → IsReported e h → R ys e → (c : Code) → h ≡ how.Fault c → R ys (Fault c)
fault_run R ys Done h is run c f = absurd (let e : how.Done ≡ how.Fault c = sym is ∙ f in cc)
fault_run R ys (Fault k) h is run c f = let e : how.Fault k ≡ how.Fault c = sym is ∙ f in subst (λ x. R ys (Fault x)) (let k_is : k ≡ c = cc in k_is) run
fault_run R ys Cut h is run c f = absurd (⊎_elim (λ i. let e : how.Halted ≡ how.Fault c = sym i ∙ f in cc) (λ i. let e : how.Memory ≡ how.Fault c = sym i ∙ f in cc) is)

-- Devices like these without faults.

-- without the faults
abbrev pub cleared : DeviceTold → DeviceTold
cleared d = record d { open_faults = 0; read_faults = 0; write_faults = 0; close_faults = 0 }

-- the first device, and the others without their faults
abbrev pub clean_but : (ℕ → DeviceTold) → ℕ → DeviceTold
clean_but w zero = w 0
clean_but w (suc k) = cleared (w (suc k))

pub clean_each : (w : ℕ → DeviceTold) → faults_of (w 0) ≡ 0 → (k : ℕ) → (faults_of (clean_but w k) ≡ 0) × ((clean_but w k).content ≡ (w k).content)
clean_each w h zero = (h, refl)
clean_each w h (suc k) = (refl, refl)

-- A reading that was not left, of a device of which no act failed, is a whole one.

done_whole : (o : Option (List ℕ)) (d : DeviceTold) (ys : List Element) → FirstBytes o d.at ys → d.at < 2 ^ 40 → IfSome o (λ c. d.at ≡ length c) → ReadsWholeBy o d ys Done
done_whole None d ys h l i = (h, inl (l, refl))
done_whole (Some c) d ys h l i = inl (omega (arith, l, i), h ∙ ap (λ xs. map Byte xs) (take_all d.at c (omega (arith, i))), refl)

endless_whole : (o : Option (List ℕ)) (d : DeviceTold) (ys : List Element) → FirstBytes o d.at ys → d.at ≡ 2 ^ 40 → IfSome o (λ c. 2 ^ 40 ≤ length c) → ReadsWholeBy o d ys (Fault code.Endless)
endless_whole None d ys h at i = (h, inr (at, refl))
endless_whole (Some c) d ys h at i = inr (i, h ∙ ap (λ n. map Byte (take n c)) at, refl)

pub whole_is : (d : DeviceTold) (ys : List Element) (e : End) → faults_of d ≡ 0 → (e ≢ Cut) → Reads d ys e → ReadsWhole d ys e
whole_is d ys Done calm n r = done_whole d.content d ys r.0 r.1.1 r.1.3
whole_is d ys (Fault code.Endless) calm n r = endless_whole d.content d ys r.0 r.1.0 r.1.2
whole_is d ys (Fault code.Read) calm n r = absurd (omega (arith, calm, r.1))
whole_is d ys (Fault c) calm n r = absurd r.1
whole_is d ys Cut calm n r = absurd (n refl)

-- A reading that was left gave a front of what a whole one gives.

within_or : (a b : ℕ) → (a < b) ⊎ (b ≤ a)
within_or a b = grind arith

-- some content is read whole
content_read : (c : List ℕ) → (zs : List Element) × (g : End) × ReadsContent c zs g
content_read c = ⊎_elim (λ (l : length c < 2 ^ 40). (map Byte c, Done, inl (l, refl, refl))) (λ (l : 2 ^ 40 ≤ length c). (map Byte (take (2 ^ 40) c), Fault code.Endless, inr (l, refl, refl))) (within_or (length c) (2 ^ 40))

-- as many bytes as its place says, where that is within the limit
bytes_read : (d : DeviceTold) (ys : List Element) → d.at ≤ 2 ^ 40 → FirstBytes None d.at ys → (g : End) × ReadsWholeBy None d ys g
bytes_read d ys l h = ⊎_elim (λ (s : d.at < 2 ^ 40). (Done, (h, inl (s, refl)))) (λ (s : 2 ^ 40 ≤ d.at). (Fault code.Endless, (h, inr (omega arith, refl)))) (within_or d.at (2 ^ 40))

pub some_read : (o : Option (List ℕ)) (d : DeviceTold) → d.at ≤ 2 ^ 40 → (zs : List Element) × (g : End) × ReadsWholeBy o d zs g
some_read None d l = let bytes = replicate d.at 0 in let b = bytes_read d (map Byte bytes) l (bytes, length-replicate d.at 0, refl) in (map Byte bytes, b.0, b.1)
some_read (Some c) d l = content_read c

front_of_content : (c : List ℕ) (n : ℕ) → n ≤ 2 ^ 40 → (zs : List Element) (g : End) → ReadsContent c zs g → IsFront (map Byte (take n c)) zs
front_of_content c n l zs g (inl r) = subst (λ xs. IsFront (map Byte (take n c)) xs) (sym r.1) (front_map Byte (take n c) c (drop n c, sym (take-append-drop n c)))
front_of_content c n l zs g (inr r) =
    subst (λ xs. IsFront (map Byte (take n c)) xs) (sym r.1)
    (front_map Byte (take n c) (take (2 ^ 40) c) (drop n (take (2 ^ 40) c), sym (ap (λ xs. xs ++ drop n (take (2 ^ 40) c)) (sym (take-take n (2 ^ 40) c l)) ∙ take-append-drop n (take (2 ^ 40) c))))

pub front_read : (o : Option (List ℕ)) (d : DeviceTold) (ys : List Element) → d.at ≤ 2 ^ 40 → FirstBytes o d.at ys → (zs : List Element) × (g : End) × ReadsWholeBy o d zs g × IsFront ys zs
front_read None d ys l h = let b = bytes_read d ys l h in (ys, b.0, b.1, front_same ys)
front_read (Some c) d ys l h = let r = content_read c in (r.0, r.1, r.2, subst (λ xs. IsFront xs r.0) (sym h) (front_of_content c d.at l r.0 r.1 r.2))
