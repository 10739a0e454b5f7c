-- Lists of neighbours: the places of rows, arcs, where lists start, and lists made from lists.
pub mod Inverse
pub mod Ends
pub mod Entries
pub mod Steps
pub mod ListStarts
pub mod Filling
pub mod SummedCounts
pub mod NeighbourLists
pub mod LaterArcs
pub mod PlacedOrders
pub mod TurnedArcs
pub mod Written
