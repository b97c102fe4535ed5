-- What an exported announcement on an image answers and leaves. A withdrawal is told as a build is (`image_card_of`).
use Rattle.tree_build.specs.Built.{ImageOut}
use Rattle.packing.specs.ImageAnswers.{pack_image}
use Rattle.cards.specs.Cards.{ImageCard, image_card}

unfoldable pub changed_card_of : ImageOut → ImageCard
changed_card_of o = image_card (pack_image o.said) o.words o.hops
