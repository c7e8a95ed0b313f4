-- What a layer means, over its slots and the content of the store below. Assumes nothing.
--   joined t u             what is told of a row by the layer's own slots, or else by the store below
--   layer_content xs c     the content of a layer with the slots xs over a store with the content c
use Rattle.std.specs.Prelude.{◌+◌, min, cond, List}
use Rattle.store.specs.Content.{Told, present, Content}
use Rattle.store.specs.Slots.{Slot, told_in, used}

abbrev pub joined : Told → Told → Told
joined t u = cond (present t) t u

abbrev pub layer_content : List Slot → Content → Content
layer_content xs c =
    record { map = λ q. joined (told_in xs q) (c.map q); held = used xs + c.held; limit = min (768 + c.limit) 16777216 }
