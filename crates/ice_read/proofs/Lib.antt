-- the places of faults, told from a value and from what holds it
pub mod PlacesOfFaults
-- whole numbers of a value
pub mod WholeNumbers
-- objects with exactly some members
pub mod ObjectMembers
-- a value that is written as text is read again from it
pub mod Spelling
-- names that differ are found at their places
pub mod NamePlaces
-- what is written of the parts of an exchange is read again
pub mod PartsAgain
-- the owned amounts that are written are read again, in whatever order their members stand
pub mod OwnedAmounts
-- where the nodes below a node of a tree end, by the depths of the nodes
pub mod Levels
-- the tree that is written for a lawful bidder is read again, node by node in preorder
pub mod TreesAgain
-- an exchange that is written as a value is read again from it
pub mod ExchangeAgain
-- what is spelled in numbers has no float
pub mod Floatless
-- the value that a lawful exchange is written as has a text that is read as the value
pub mod WrittenText
-- the text of a lawful exchange is read again as the exchange
pub mod TextAgain
-- the value of the bytes of a file
pub mod Bytes
-- elements of an array that are read one after another
pub mod ArrayElements
-- what is read of the parts of a round file, step by step
pub mod RoundParts
-- a fault of a file has a number, and so it is no want of memory; nor
-- is it a sale above what is owned, but where a bidder is added
pub mod FaultNumbers
-- so has each fault of an exchange file
pub mod ExchangeFaultNumbers
-- what the maker of a tree refuses, and what the definitions refuse
pub mod Refusals
-- values that are written one after another
pub mod ListSpelling
-- arrays of two elements
pub mod Pairs
-- what reading a node and its children adds to a tree
pub mod NodesAdded
-- how a node is read: by its form, and a choose node child by child
pub mod Nodes
-- where there is no good, no tree can be read
pub mod NoGoods
-- a whole tree
pub mod Trees
-- the names of goods that are found
pub mod GoodNames
-- the goods and bidders of an exchange, one after another
pub mod GoodsAndBidders
-- a whole exchange file
pub mod ExchangeFiles
-- a file in line form is no JSON
pub mod LineForm
-- what a refused sale tells of a file
pub mod SalesTold
