-- What a layer is to its callers, by what the store below says of itself. Assumes nothing.
--   content_of l            what the layer l holds, its own slots and the store below together
--   place_in l q            where the layer has the row q
--   PlacedIn q w l m        the row q is at w now, and every other row is where it was; l before, m after
--   PutPlacesIn p l m r     where every row is after setting the hop of the prefix p, which answered r
use Rattle.std.specs.Prelude.{Option, Result}
use Rattle.bits.specs.Rows.{Bits}
use Rattle.net.specs.declared.prefix.Prefix.{Prefix}
use Rattle.refusal.specs.declared.Refusal.{Refusal}
use Rattle.chooser.specs.declared.Chooser as chooser
use Rattle.store.specs.declared.store.Store as store
use Rattle.store.specs.Content.{Content}
use Rattle.layer.specs.Layers.{layer_content}
use Rattle.layer.specs.Places.{place_of, Placed, PutPlaces}
use Rattle.layer.specs.declared.layer.Layer.{Layer}
use Rattle.layer.specs.declared.place.Place.{Place}

abbrev pub content_of : {C S : Type 0} {c : chooser.Ghosts C} {s : store.Ghosts S} → Layer C S c s → Content
content_of {s = s} l = layer_content l.buckets.slots (s.content l.below)

abbrev pub place_in : {C S : Type 0} {c : chooser.Ghosts C} {s : store.Ghosts S} → Layer C S c s → Bits → Option Place
place_in {s = s} l q = place_of l.buckets.slots (s.content l.below) q

abbrev pub PlacedIn : {C S : Type 0} {c : chooser.Ghosts C} {s : store.Ghosts S} → Bits → Option Place → Layer C S c s → Layer C S c s → Type 0
PlacedIn {s = s} q w l m = Placed q w l.buckets.slots (s.content l.below) m.buckets.slots (s.content m.below)

abbrev pub PutPlacesIn : {C S : Type 0} {c : chooser.Ghosts C} {s : store.Ghosts S} → Prefix → Layer C S c s → Layer C S c s → Result (Unit {0}) Refusal → Type 0
PutPlacesIn {c = c} {s = s} p l m r = PutPlaces c.bucket p l.buckets.slots (s.content l.below) m.buckets.slots (s.content m.below) r
