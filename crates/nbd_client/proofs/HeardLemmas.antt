-- Answers to GO, read one after another.
use Rattle.std.proofs.Common.{◌≡◌, ℕ, List, [], ◌∷◌, ◌++◌, length, Option, Some, None, Ok, refl, ap, ◌∙◌}
use Rattle.std.specs.Io.KnownBytes.{Consumes}
use Rattle.std.proofs.KnownBytes.{Consumes-nil, Consumes-trans}
use Rattle.nbd_wire.specs.Handshake.{option_head_at}
use Rattle.nbd_wire.specs.declared.information.BlockSizes.{BlockSizes}
use Rattle.nbd_wire.specs.declared.information.Export.{Export}
use Rattle.nbd_wire.specs.declared.information.Info.{Info}
use Rattle.nbd_wire.specs.declared.option.OptionHead.{OptionHead}
use Rattle.nbd_client.specs.Heard.{MeansInfo, InfosSay, export_after, export_of, sizes_after, sizes_of}
use Rattle.nbd_client.specs.inner.Heard.{GoAnswersSay, GoAnswerSays}

-- What was read so far are answers INFO, which say this.
pub record Hearing (old new : Option (List ℕ)) (export : Option Export) (sizes : BlockSizes) : Type 0 where
  pub bytes : List ℕ
  pub read : Consumes old new bytes
  pub infos : List Info
  pub say : InfosSay bytes infos
  pub export_is : export_of infos ≡ export
  pub sizes_is : sizes_of infos ≡ sizes

pub hearing_none : (a : Option (List ℕ)) → Hearing a a None (record { minimum = 1; preferred = 4096; maximum = 33554432 })
hearing_none a = record {
  bytes = [];
  read = Consumes-nil a;
  infos = [];
  say = refl;
  export_is = refl;
  sizes_is = refl;
}

-- One more answer is read.
pub hearing_more : (a b c : Option (List ℕ)) (export : Option Export) (sizes : BlockSizes) (said : Info) → Hearing a b export sizes
    → GoAnswerSays b c (Some said) → Hearing a c (export_after said export) (sizes_after said sizes)
hearing_more a b c export sizes said h i = record {
  bytes = h.bytes ++ i.bytes;
  read = Consumes-trans a b c h.bytes i.bytes h.read i.read;
  infos = said ∷ h.infos;
  say = (h.bytes, i.bytes, refl, h.say, i.is);
  export_is = ap (export_after said) h.export_is;
  sizes_is = ap (sizes_after said) h.sizes_is;
}

-- The last answer.
pub heard_all : (a b c : Option (List ℕ)) (said : Option Export) (export : Export) (sizes : BlockSizes) → Hearing a b said sizes
    → said ≡ Some export → GoAnswerSays b c None → GoAnswersSay a c export sizes
heard_all a b c said export sizes h is i = record {
  bytes = h.bytes ++ i.bytes;
  read = Consumes-trans a b c h.bytes i.bytes h.read i.read;
  are = record {
    before = h.bytes;
    last = i.bytes;
    whole = refl;
    infos = h.infos;
    say = h.say;
    ends = i.is;
    export_is = h.export_is ∙ is;
    sizes_is = h.sizes_is;
  };
}

-- The head of an answer and then its body.
pub hears_answer : (a b c : Option (List ℕ)) (front body : List ℕ) (head : OptionHead) (said : Option Info)
    → Consumes a b front → Consumes b c body → length front ≡ 20 → option_head_at front ≡ Ok head → head.option ≡ 7
    → length body ≡ head.length → MeansInfo head.answer body said → GoAnswerSays a c said
hears_answer a b c front body head said first second long reads option size means = record {
  bytes = front ++ body;
  read = Consumes-trans a b c front body first second;
  is = record {
    front = front;
    body = body;
    whole = refl;
    long = long;
    head = head;
    reads = reads;
    option = option;
    size = size;
    means = means;
  };
}
