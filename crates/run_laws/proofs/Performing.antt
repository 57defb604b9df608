-- What all runs share that did their work.
use Rattle.std.proofs.Common.{◌≡◌, ◌≢◌, ℕ, nat_eq, List, [], ◌∷◌, ◌++◌, map, filter, flat_map, Option, Some, None, IfSome, refl, sym, ap, ◌∙◌, subst}
use Rattle.chunk_core.specs.declared.code.Code.{Code}
use Rattle.chunk_core.specs.declared.code.Exit.{Exit}
use Rattle.chunk_core.specs.declared.code.Exit.TheVariants.{Succeeded, Errored, Canceled}
use Rattle.chunk_core.specs.Elements.{Byte, Element, rendering_of}
use Rattle.chunk_core.specs.Texts.{Frame, payloads_of}
use Rattle.chunk_core.proofs.Rendering.{bytes_rendering}
use Rattle.chunk_core.specs.Feed.{Given}
use Rattle.chunk_core.specs.Outcomes.{End, Cut, Done, Fault, Outcomes}
use Rattle.device_port.specs.declared.device.Mode.TheVariants as mode
use Rattle.device_port.specs.Depot.{Files, KeepsWritten}
use Rattle.device_port.specs.Device.{DeviceTold}
use Rattle.pull_nodes.specs.Runs.{GivesBy, Piped, end_by_fault}
use Rattle.run_rules.specs.Outputs.{elements_in_pieces, payloads_by}
use Rattle.run_rules.specs.Work.{Values}
use Rattle.run_laws.specs.Streams.{value_in}
use Rattle.run_laws.specs.Written.{homes_of}

pub read_write : mode.Read ≢ mode.Write
read_write e = cc

-- nothing is written at a device that is read
pub read_only : (files : Option Files) (d : DeviceTold) → d.place.mode ≡ mode.Read → KeepsWritten files d
read_only files d reads writes = absurd (read_write (sym reads ∙ writes))

pub by_exit : (P : Exit → Type 0) → P Succeeded → P Errored → P Canceled → (x : Exit) → P x
by_exit P s e c Succeeded = s
by_exit P s e c Errored = e
by_exit P s e c Canceled = c

-- What a pipe gives.

pub piped_done : (part all : List Element → Given) (A : Outcomes) (xs ys : List Element) → A xs Done → (part xs).fault ≡ None → all xs ≡ record { list = ys; fault = None } → Piped part all A ys Done
piped_done part all A xs ys run p q =
    (xs, Done, run, subst (λ f. GivesBy f part all xs Done ys Done) (sym p) (ap (λ (g : Given). g.list) (sym q), ap (λ (g : Given). end_by_fault g.fault Done) (sym q)))

pub piped_at_end : (part all : List Element → Given) (A : Outcomes) (xs ys : List Element) (c : Code) → A xs Done → (part xs).fault ≡ None → all xs ≡ record { list = ys; fault = Some c } → Piped part all A ys (Fault c)
piped_at_end part all A xs ys c run p q =
    (xs, Done, run, subst (λ f. GivesBy f part all xs Done ys (Fault c)) (sym p) (ap (λ (g : Given). g.list) (sym q), ap (λ (g : Given). end_by_fault g.fault Done) (sym q)))

pub piped_before : (part all : List Element → Given) (A : Outcomes) (xs ys : List Element) (e : End) (c : Code) → A xs e → part xs ≡ record { list = ys; fault = Some c } → Piped part all A ys (Fault c)
piped_before part all A xs ys e c run p =
    (xs, e, run, subst (λ f. GivesBy f part all xs e ys (Fault c)) (sym (ap (λ (g : Given). g.fault) p)) (ap (λ (g : Given). g.list) (sym p), refl))

pub piped_left : (part all : List Element → Given) (A : Outcomes) (xs ys : List Element) → A xs Cut → (part xs).fault ≡ None → (part xs).list ≡ ys → Piped part all A ys Cut
piped_left part all A xs ys run p q = (xs, Cut, run, subst (λ f. GivesBy f part all xs Cut ys Cut) (sym p) (sym q, refl))

pub piped_fault : (part all : List Element → Given) (A : Outcomes) (xs ys : List Element) (c : Code) → A xs (Fault c) → part xs ≡ record { list = ys; fault = None } → Piped part all A ys (Fault c)
piped_fault part all A xs ys c run p =
    (xs, Fault c, run, subst (λ f. GivesBy f part all xs (Fault c) ys (Fault c)) (sym (ap (λ (g : Given). g.fault) p)) (ap (λ (g : Given). g.list) (sym p), refl))

-- Bytes that were printed.

-- lists that are rendered one by one
pub bytes_rendered : (ps : List (List ℕ)) → ps ≡ map rendering_of (map (map Byte) ps)
bytes_rendered [] = refl
bytes_rendered (p ∷ ps) = ap (λ l. l ∷ ps) (bytes_rendering p) ∙ ap (λ l. rendering_of (map Byte p) ∷ l) (bytes_rendered ps)

flat_mapped : {A B : Type 0} (f : A → List B) (xs : List A) → flat_map f xs ≡ flat_map (λ p. p) (map f xs)
flat_mapped f [] = refl
flat_mapped f (x ∷ xs) = ap (λ l. f x ++ l) (flat_mapped f xs)

map_both : {A B : Type 0} (f : A → B) (xs ys : List A) → map f (xs ++ ys) ≡ map f xs ++ map f ys
map_both f [] ys = refl
map_both f (x ∷ xs) ys = ap (λ l. f x ∷ l) (map_both f xs ys)

bytes_in_pieces : (ps : List (List ℕ)) → elements_in_pieces (map (map Byte) ps) ≡ map Byte (flat_map (λ p. p) ps)
bytes_in_pieces [] = refl
bytes_in_pieces (p ∷ ps) = ap (λ l. map Byte p ++ l) (bytes_in_pieces ps) ∙ sym (map_both Byte p (flat_map (λ q. q) ps))

-- the pieces of the frames of stream k
abbrev pub byte_pieces : ℕ → List Frame → List (List Element)
byte_pieces k F = map (map Byte) (payloads_by k F)

pub bytes_of_frames : (k : ℕ) (F : List Frame) → elements_in_pieces (byte_pieces k F) ≡ map Byte (payloads_of k F)
bytes_of_frames k F = bytes_in_pieces (payloads_by k F) ∙ ap (map Byte) (sym (flat_mapped (λ (f : Frame). f.payload) (filter (λ (f : Frame). nat_eq f.stream k) F)))

-- The values of the tables.

abbrev value_by : Option (List ℕ) → List ℕ → Option (List ℕ)
value_by None key = None
value_by (Some bytes) key = value_in bytes key

-- those of the contents of these devices
abbrev pub values_of : List DeviceTold → Values
values_of ds t key = value_by (homes_of ds t).content key

pub by_content : (o : Option (List ℕ)) (key : List ℕ) → IfSome o (λ bytes. value_by o key ≡ value_in bytes key)
by_content None key = tt
by_content (Some bytes) key = refl
